use mathlib.Core.Path.{◌≡◌}
use Rattle.maps.proofs.Maps.{made_then}
use Rattle.type_row.proofs.Maps.{words-next, words-none}
use native.Mathlib.Omega.{arith}
use mathlib.Core.Path.{◌≡◌}
use Rattle.type_row.proofs.Maps.{words-next}
use Rattle.type_row.proofs.map_words.Goals as goal

pub loop-k-init : goal.loop-k-init
loop-k-init c = (omega arith, words-none)

pub loop-k-preserved : goal.loop-k-preserved
loop-k-preserved c = (omega (arith, c.loop-k-test.true), words-next c.loop-k.k c.loop-k.invariant.1 c.mark_at.ensures)

pub returns : goal.returns
returns c = let e : c.loop-k.k ≡ c.args.count = omega (arith, c.loop-k-test.false, c.loop-k.invariant.0) in made_then c.requires.0 c.clear_map.ensures (rw e at c.loop-k.invariant.1)

use mathlib.Core.Path.{◌∙◌}
use native.Mathlib.Omega.{arith}
use Rattle.words.proofs.Laws.{digest-next, digest-end}
use Rattle.words.proofs.digest_on.Goals as goal

pub loop-b-preserved : goal.loop-b-preserved
loop-b-preserved c = (omega arith, c.loop-b.invariant.1 ∙ digest-next c.args.s.now c.loop-b.b-index c.loop-b.h (omega arith) c.from.ensures)

pub returns : goal.returns
returns c = (digest-end c.args.s.now c.loop-b.b-index c.loop-b.h (omega arith) c.loop-b.invariant.1, c.loop-b.invariant.0)

use Rattle.std.proofs.Common.{rules}
use Rattle.placements.proofs.Ranges.{setting-next}
use native.Mathlib.Omega.{arith}
use Rattle.placements.proofs.set_span.Goals as goal

pub loop-i-preserved : goal.loop-i-preserved
loop-i-preserved c = setting-next c.loop-i.invariant (omega (arith, c.clipped-i-end.ensures, c.loop-i-test.true)) (search rules)

use Rattle.maps.proofs.Maps.{marks-skip}
use Rattle.layout.proofs.Marks.{below-zero, plain}
use native.Mathlib.Omega.{arith}
use Rattle.maps.proofs.mark.Goals as goal

pub returns-then-off-lt0 : goal.returns-then-off-lt0
returns-then-off-lt0 c = marks-skip c.args.off (λ x. below-zero c.args.size x c.args.off c.ranges.off c.if-off-lt0.true)

pub overflow_cast-off : goal.overflow_cast-off
overflow_cast-off c = let p = plain c.args.off c.ranges.off c.if-off-lt0.false in (p.sign, omega arith)

pub returns : goal.returns
returns c = rw (plain c.args.off c.ranges.off c.if-off-lt0.false).same c.mark_at.ensures

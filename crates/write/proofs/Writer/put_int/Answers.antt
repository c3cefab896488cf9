use Rattle.std.proofs.Common.{[], ◌∷◌}
use mir.Syntax.{w64}
use mir.ValLaws.{to_z-of_z}
use Rattle.write.proofs.Writes.{writes_then, writes_as, int-plus, int-minus}
use Rattle.write.proofs.Writer.put_int.Goals as goal
use Rattle.write.proofs.Writer.put_int.Goals.{then-n-lt0, else-n-lt0}

pub returns : goal.returns
returns c =
    elim c.if-n-lt0.branch [
      | then-n-lt0 w ↦ writes_as (int-minus c.args.n (rw (to_z-of_z w64 c.args.n c.ranges.n) at w.if-n-lt0.true) (rw (to_z-of_z w64 c.args.n c.ranges.n) at c.unsigned_abs.ensures.value)) (writes_then {s = 45 ∷ []} (rw w.self-is w.put.ensures) c.put_nat.ensures)
      | else-n-lt0 w ↦ writes_as (int-plus c.args.n (rw (to_z-of_z w64 c.args.n c.ranges.n) at w.if-n-lt0.false) (rw (to_z-of_z w64 c.args.n c.ranges.n) at c.unsigned_abs.ensures.value)) (rw (← w.self-is) c.put_nat.ensures)
    ]

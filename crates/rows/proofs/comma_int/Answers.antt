use mir.Syntax.{w64}
use mir.ValLaws.{to_z-of_z}
use Rattle.std.proofs.Common.{ap, ◌∷◌, ℤ}
use Rattle.semantics.specs.Text.{decimalℤ}
use Rattle.write.proofs.Writes.{writes_then, writes_as}
use Rattle.rows.proofs.comma_int.Goals as goal

pub returns : goal.returns
returns c = writes_as (ap (λ (z : ℤ). 44 ∷ decimalℤ z) (to_z-of_z w64 c.args.n c.ranges.n)) (writes_then c.put.ensures c.put_int.ensures)

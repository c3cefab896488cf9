-- `row_fields::values::put_values` meets its contract. What is left to be written are the values of the fields from i on.
use Rattle.std.proofs.Common.{length, ◌+◌, ◌-◌}
use Rattle.write.specs.declared.Writer.{Writer}
use Rattle.write.specs.Writes.{Writes}
use Rattle.semantics.specs.Form.{fields_from}
use Rattle.stored.specs.Reading.{row_values}
use Rattle.row_fields.proofs.values.put_values.Given as goal

abbrev pub invariant-loop-i : goal.invariant-loop-i
invariant-loop-i l = (z : Writer) → Writes l.w (row_values l.width l.reals (fields_from l.i l.row)) z → Writes l.initial.w (row_values l.width l.reals (fields_from l.from l.row)) z

abbrev pub decreases-loop-i : goal.decreases-loop-i
decreases-loop-i l = length l.row + 1 - l.i

-- `const_rows::rows` meets its contract.
use Rattle.std.proofs.Common.{◌≤◌}
use Rattle.const_rows.specs.Rows.{rows_to}
use Rattle.write.specs.Writes.{Writes}
use Rattle.const_rows.proofs.rows.Given as goal

abbrev pub invariant-loop-i : goal.invariant-loop-i
invariant-loop-i l = (l.i ≤ l.consts) × Writes l.initial.w (rows_to l.plain l.sheet l.work l.consts l.i) l.w

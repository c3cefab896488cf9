use Rattle.std.proofs.Common.{◌≤◌}
use Rattle.write.specs.Writes.{Writes}
use Rattle.semantics.specs.Listing.{global_row}
use Rattle.semantics.specs.Sheet.{concat_map}
use Rattle.global_table.specs.Table.{places_in}
use Rattle.global_rows.proofs.global_rows.Given as goal

abbrev pub invariant-loop-i : goal.invariant-loop-i
invariant-loop-i l = (l.i ≤ l.g) × Writes l.initial.w (concat_map global_row (places_in l.sheet l.work l.i)) l.w

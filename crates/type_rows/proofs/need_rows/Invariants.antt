use Rattle.std.proofs.Common.{◌≡◌, ◌+◌, length}
use Rattle.type_row.specs.Row.{TypesWrote}
use Rattle.type_rows.specs.Rows.{keys_to, shapes_of}
use Rattle.type_rows.proofs.need_rows.Given as goal

abbrev pub invariant-loop-q : goal.invariant-loop-q
invariant-loop-q l = (l.id ≡ l.base + length (keys_to l.sheet l.q)) × TypesWrote (shapes_of l.sheet (keys_to l.sheet l.q)) l.base l.id l.initial.w l.w l.initial.work l.work

use Rattle.lines.specs.Lines.{lines_in}
use Rattle.std.proofs.Common.{◌≤◌}
use Rattle.type_lines.specs.Shapes.{frames_to}
use Rattle.type_row.specs.Row.{TypesWrote}
use Rattle.type_rows.proofs.frame_rows.Given as goal

abbrev pub invariant-loop-i : goal.invariant-loop-i
invariant-loop-i l = (l.i ≤ lines_in l.sheet) × TypesWrote (frames_to l.sheet l.i) l.id l.next l.initial.w l.w l.initial.work l.work

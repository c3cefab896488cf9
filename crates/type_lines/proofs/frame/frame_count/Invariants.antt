use Rattle.lines.specs.Lines.{lines_in}
use Prim.Native.Nat.{◌≤◌}
use lib.ListN.{length}
use mathlib.Core.Path.{◌≡◌}
use Rattle.type_lines.specs.Shapes.{frames_to}
use Rattle.type_lines.proofs.frame.frame_count.Given as goal

abbrev pub invariant-loop-i : goal.invariant-loop-i
invariant-loop-i l = (l.i ≤ lines_in l.sheet) × (l.frames ≡ length (frames_to l.sheet l.i))

use lib.ListN.{length, take}
use mathlib.Core.Path.{◌≡◌}
use Rattle.maps.specs.Maps.{Marks}
use Rattle.type_lines.specs.Shapes.{written_shape}
use Prim.Native.Nat.{◌≤◌}
use Rattle.type_row.proofs.map_line.Given as goal

abbrev pub invariant-loop-j : goal.invariant-loop-j
invariant-loop-j l = (l.j ≤ l.count) × (l.count ≡ length (written_shape l.sheet l.i).pointers) × Marks l.size (take l.j (written_shape l.sheet l.i).pointers) l.initial.work l.work

-- `field_list::line_fields` meets its contract. The loop's invariant: the array holds the first i fields, and the next one begins at `at`.
use mathlib.Core.Path.{◌≡◌}
use Prim.Native.Nat.{◌+◌, ◌*◌}
use Rattle.field_list.specs.Fields.{line_fields}
use Rattle.field_list.proofs.line_fields.Given as goal

abbrev pub invariant-loop-i : goal.invariant-loop-i
invariant-loop-i l = (l.at ≡ l.off + l.i * l.size) × (l.a ≡ line_fields l.off l.size l.pointer l.i)

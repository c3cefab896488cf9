use Prim.Native.Nat.{ℕ}
use Rattle.semantics.specs.Tree.{TypeKey}
use Rattle.semantics.specs.Global.{str_items}
use Rattle.write.specs.Writes.{Writes}
use Rattle.placements.specs.Placements.{values_in}
use Rattle.items.specs.Items.{item_rows}
use Rattle.items.proofs.string_rows.Given as goal

abbrev pub invariant-loop-i : goal.invariant-loop-i
invariant-loop-i l = (id : TypeKey → ℕ) → Writes l.initial.w (item_rows id (str_items 0 (values_in l.work 0 l.i))) l.w

-- `form::field` meets its contract.
use Rattle.semantics.specs.Form.{fields_from}
use Rattle.form.specs.Table.{fields_behind}
use lib.ListN.{length, get_or}
use mathlib.Core.List.{[]}
use mathlib.Core.Path.{◌≡◌}
use Prim.Native.Nat.{◌≤◌, ◌-◌, ◌+◌}
use Rattle.form.proofs.field.Given as goal

abbrev pub invariant-loop-at : goal.invariant-loop-at
invariant-loop-at l = (l.k ≤ l.i) × (get_or (fields_behind l.f l.l) l.i [] ≡ get_or (fields_from l.at l.l) (l.i - l.k) [])

abbrev pub decreases-loop-at : goal.decreases-loop-at
decreases-loop-at l = length l.l + 1 - l.at

-- `form::begins_with` meets its contract.
use Rattle.semantics.specs.Form.{begins}
use lib.ListN.{length, drop}
use Rattle.form.specs.Table.{keywords_at}
use mathlib.Core.Path.{◌≡◌}
use Prim.Native.Nat.{◌≤◌, ◌-◌}
use Rattle.form.proofs.begins_with.Given as goal

abbrev pub invariant-loop-f : goal.invariant-loop-f
invariant-loop-f l = (l.i ≤ length (keywords_at l.f)) × (l.i ≤ length l.l) × (begins (keywords_at l.f) l.l ≡ begins (drop l.i (keywords_at l.f)) (drop l.i l.l))

abbrev pub decreases-loop-f : goal.decreases-loop-f
decreases-loop-f l = 17 - l.i

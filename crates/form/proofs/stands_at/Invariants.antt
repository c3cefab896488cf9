use Rattle.text.specs.Parts.{until}
use Rattle.semantics.specs.Text.{same}
use lib.ListN.{length, drop}
use Prim.Native.Nat.{◌+◌, ◌≤◌}
use mathlib.Core.Bool.{true}
use mathlib.Core.Path.{◌≡◌}
use Rattle.form.proofs.stands_at.Given as goal

abbrev pub invariant-loop-i : goal.invariant-loop-i
invariant-loop-i l = (l.i ≤ length l.name) × (l.at + length l.name ≤ length l.l) × (same (drop l.i l.name) (until 44 (drop (l.at + l.i) l.l)) ≡ true)

abbrev pub decreases-loop-i : goal.decreases-loop-i
decreases-loop-i l = l.i

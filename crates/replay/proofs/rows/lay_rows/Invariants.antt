-- `replay::rows::lay_rows` meets its contract. What the whole text comes to is what the rows from `at` on come to, from the state so far.
use Rattle.replay.specs.Rows.{element_size_at, begun, laid_text}
use Rattle.laying.specs.Steps.{seen_laying}
use lib.ListN.{length, drop}
use mathlib.Core.Path.{◌≡◌}
use Prim.Native.Nat.{◌≤◌, ◌-◌}
use Rattle.replay.proofs.rows.lay_rows.Given as goal

abbrev pub invariant-loop-at : goal.invariant-loop-at
invariant-loop-at l = (l.s.start ≤ l.s.end) × (l.s.end ≤ length l.area) × (l.s.item ≤ l.at) × (length l.image ≡ length l.initial.image) × (length l.area ≡ length l.initial.area) × (laid_text (element_size_at l.work) l.listing (begun l.end l.initial.image l.initial.area) ≡ laid_text (element_size_at l.work) (drop l.at l.listing) (seen_laying l.s l.image l.area))

abbrev pub decreases-loop-at : goal.decreases-loop-at
decreases-loop-at l = length l.listing - l.at

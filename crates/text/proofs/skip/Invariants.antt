-- `text::skip` meets its contract. Part n of s is part n - k of what begins at `at`.
use Prim.Native.Nat.{◌+◌, ◌-◌, ◌≤◌}
use mathlib.Core.Path.{◌≡◌}
use lib.ListN.{length, drop}
use Rattle.text.specs.Parts.{part_start_at}
use Rattle.text.proofs.skip.Given as goal

abbrev pub invariant-loop-k : goal.invariant-loop-k
invariant-loop-k l = (l.at ≤ length l.s) × (part_start_at l.b l.n l.s ≡ l.at + part_start_at l.b (l.n - l._k) (drop l.at l.s))

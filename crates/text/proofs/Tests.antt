-- Laws of tests.
use Prim.Native.Nat.{ℕ, ◌≤◌}
use mathlib.Core.Path.{◌≡◌}
use mathlib.Core.Bool.{true}
use lib.Dec.{leb}
use borrow.Author.Tests.{leb-true}
use Rattle.semantics.specs.Text.{in_range}
use Rattle.semantics.proofs.Common.{both}

pub within-yes : (lo hi b : ℕ) → in_range lo hi b ≡ true → (lo ≤ b) × (b ≤ hi)
within-yes lo hi b h = let w = both (leb lo b) (leb b hi) h in (leb-true lo b w.0, leb-true b hi w.1)

-- The state before the first row.
use Rattle.std.specs.Prelude.{ℕ, ◌≡◌, length}
use Rattle.semantics.specs.Text.{Bytes}
use Rattle.laying.specs.declared.State.{State}
use Rattle.laying.specs.Steps.{seen_laying}
use Rattle.replay.specs.Rows.{begun}

-- for every image of n bytes and every area
pub record FirstState (n end : ℕ) (r : State) : Type 0 where
  pub is : (image area : Bytes) → length image ≡ n → seen_laying r image area ≡ begun end image area
  pub start : r.start ≡ 0
  pub part : r.end ≡ 0
  pub item : r.item ≡ 0

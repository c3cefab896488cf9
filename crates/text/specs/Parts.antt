-- Where the parts of a text stand.
use Rattle.std.specs.Prelude.{ℕ, ◌+◌, ◌-◌, ◌≤◌, ◌≡◌, cond, length, take, drop, ltb}
use Rattle.semantics.specs.Text.{Bytes, head_part, parts_at, part_start, field_of, field_start}

-- what stands before the first byte c
unfoldable pub until : ℕ → Bytes → Bytes
until c s = head_part (parts_at c s)

-- where part n begins: one past the end where there is no part n
unfoldable pub part_start_at : ℕ → ℕ → Bytes → ℕ
part_start_at c n s = cond (ltb n (length (parts_at c s))) (part_start (parts_at c s) n) (length s + 1)

-- field i of line n of s stands from a to e
pub record StandsAt (s : Bytes) (n i a e : ℕ) : Type 0 where
  pub starts : a ≡ field_start s n i
  pub ordered : a ≤ e
  pub within : e ≤ length s
  pub view : take (e - a) (drop a s) ≡ field_of s n i

-- A pointer map in the working space, from byte 49152 on.
use Rattle.std.specs.Prelude.{ℕ, ◌+◌, ◌≤◌, ◌≡◌, List, ℤ, length, take, drop, get_or}
use Rattle.std.specs.Int.Bits.{bit_or}
use Rattle.semantics.specs.Text.{Bytes}
use Rattle.semantics.specs.Layout.{map_length, pointer_map}
use Rattle.checks.specs.Checks.{Kept}

-- the bytes that stand where the map of a block of this size does
unfoldable pub map_in : Bytes → ℕ → Bytes
map_in t size = take (map_length size) (drop 49152 t)

-- the space holds such a map: no record of a checked sheet is larger
pub record MapRoom (t : Bytes) (size : ℕ) : Type 0 where
  pub room : 62464 ≤ length t
  pub small : size ≤ 131080

-- the map that stands there is that of these offsets
pub record Mapped (t : Bytes) (size : ℕ) (offs : List ℤ) : Type 0 where
  pub bytes : map_in t size ≡ pointer_map size offs

-- from t to u these offsets were marked in the map that stood there, and nothing else was changed: behind its end a map has no bits
pub record Marks (size : ℕ) (offs : List ℤ) (t u : Bytes) : Type 0 where
  pub bytes : (j : ℕ) → get_or u (49152 + j) 0 ≡ bit_or (get_or t (49152 + j) 0) (get_or (pointer_map size offs) j 0)
  pub kept : Kept 49152 t u

-- from t to u the map of these offsets was made, and nothing else was changed
pub record MapMade (size : ℕ) (offs : List ℤ) (t u : Bytes) : Type 0 where
  pub map : Mapped u size offs
  pub behind : (j : ℕ) → map_length size ≤ j → get_or u (49152 + j) 0 ≡ get_or t (49152 + j) 0
  pub kept : Kept 49152 t u

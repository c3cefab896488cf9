-- What is stored of a data item: bytes at an offset, without the text of a string or the kind of an element.
use Rattle.std.specs.Prelude.{ℕ, ◌+◌, ◌*◌, List, [], ◌∷◌, None, Some}
use Rattle.semantics.specs.Text.{Bytes}
use Rattle.semantics.specs.Global.{Item}
use Rattle.semantics.specs.Global.Item.{values_item, str_item, array_item, set_item, back_item}
use Rattle.semantics.specs.Image.{values_bytes, handle, elem_size, part_at, Replay, start_of, lay, with_part, moved}

-- `string_at` and `array_at` lay a handle; `array_at` takes an element's size and a length
pub data Stored : Type 0 where
  bytes_at : ℕ → Bytes → Stored
  string_at : ℕ → Stored
  array_at : ℕ → ℕ → ℕ → Stored
  set_at : ℕ → Stored
  go_back : Stored

abbrev pub stored_of : Item → Stored
stored_of (values_item o vs) = bytes_at o (values_bytes vs)
stored_of (str_item o s) = string_at o
stored_of (array_item o k n) = array_at o (elem_size k) n
stored_of (set_item o) = set_at o
stored_of back_item = go_back

-- ---- replay, as of items

abbrev pub replay_one : Stored → Replay → Replay
replay_one (bytes_at o ys) r = lay o ys r.inside r
replay_one (string_at o) r = lay o (handle r.item) r.inside r
replay_one (array_at o size n) r = lay o (handle r.item) r.inside (with_part o (part_at r.end + size * n) r)
replay_one (set_at o) r = moved (Some (start_of o r.parts)) r
replay_one go_back r = moved None r

abbrev pub replay_stored : List Stored → Replay → Replay
replay_stored [] r = r
replay_stored (x ∷ xs) r = replay_stored xs (replay_one x r)

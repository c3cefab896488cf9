-- A replay in lent buffers: what is written has to fit. `set` means the newest array here, whatever offset it names; `InPlace` says that
-- this is the array at that offset, and it holds of every sheet's items (`globals-in-place` in proofs/Places.antt).
use Rattle.std.specs.Prelude.{ℕ, suc, ◌+◌, ◌-◌, ◌*◌, max, ◌≤◌, ◌≡◌, Bool, true, false, cond, List, [], ◌∷◌, length, ltb, Option, None, Some}
use borrow.Rule.Slice.PartMut.{mid_of, put_mid}
use Rattle.semantics.specs.Text.{Bytes}
use Rattle.semantics.specs.Image.{handle, part_at}
use Rattle.semantics.specs.Refusal.{zeros}
use Rattle.write.specs.Wrote.{over}
use Rattle.stored.specs.Stored.{Stored, bytes_at, string_at, array_at, set_at, go_back}

-- the number of the next item, the buffers of image and area, the newest array's part of the area, whether writing goes there,
-- and the image's length
pub record Laying : Type 0 where
  pub item : ℕ
  pub image : Bytes
  pub area : Bytes
  pub start : ℕ
  pub end : ℕ
  pub inside : Bool
  pub long : ℕ

-- bytes at an offset of the image, none where they don't fit
unfoldable pub lay_image : ℕ → Bytes → Laying → Option Laying
lay_image o ys m =
    cond (ltb (length m.image) (o + length ys)) None
    (Some (record { item = suc m.item; image = over m.image o ys; area = m.area; start = m.start; end = m.end; inside = m.inside; long = max m.long (o + length ys) }))

-- the newest array's part, and the area with it written anew
abbrev pub newest_part : Laying → Bytes
newest_part m = mid_of m.start (m.end - m.start) m.area

abbrev pub with_newest_part : Laying → Bytes → Bytes
with_newest_part m ys = put_mid m.start (m.end - m.start) m.area ys

-- bytes at an offset of the newest array's part
unfoldable pub lay_part : ℕ → Bytes → Laying → Option Laying
lay_part o ys m =
    cond (ltb (m.end - m.start) (o + length ys)) None
    (Some (record { item = suc m.item; image = m.image; area = with_newest_part m (over (newest_part m) o ys); start = m.start; end = m.end; inside = m.inside; long = m.long }))

unfoldable pub lay_bytes : ℕ → Bytes → Laying → Option Laying
lay_bytes o ys m = cond m.inside (lay_part o ys m) (lay_image o ys m)

-- a new array's part
abbrev pub new_part : ℕ → Laying → Laying
new_part n m = record { item = m.item; image = m.image; area = m.area; start = part_at m.end; end = part_at m.end + n; inside = m.inside; long = m.long }

-- an array of n bytes, whose handle stands in the image
unfoldable pub lay_array : ℕ → ℕ → Laying → Option Laying
lay_array o n m = cond (ltb (length m.area) (part_at m.end + n)) None (lay_image o (handle m.item) (new_part n m))

abbrev pub move_to : Bool → Laying → Laying
move_to b m = record { item = suc m.item; image = m.image; area = m.area; start = m.start; end = m.end; inside = b; long = m.long }

abbrev pub lay_one : Stored → Laying → Option Laying
lay_one (bytes_at o ys) m = lay_bytes o ys m
lay_one (string_at o) m = lay_bytes o (handle m.item) m
lay_one (array_at o size n) m = lay_array o (size * n) m
lay_one (set_at o) m = Some (move_to true m)
lay_one go_back m = Some (move_to false m)

abbrev pub lay_then : (Laying → Option Laying) → Option Laying → Option Laying
lay_then f None = None
lay_then f (Some m) = f m

-- all of it; none as soon as one doesn't fit
abbrev pub lay_all : List Stored → Option Laying → Option Laying
lay_all [] m = m
lay_all (x ∷ xs) m = lay_all xs (lay_then (lay_one x) m)

-- over zeros, with an image up to the end of allocation
unfoldable pub laying_start : ℕ → ℕ → ℕ → Option Laying
laying_start end image area =
    cond (ltb image end) None
    (Some (record { item = 0; image = zeros image; area = zeros area; start = 0; end = 0; inside = false; long = end }))

-- `set` names the newest array, at place p with n bytes, what is written there fits it, and arrays don't nest
abbrev pub InPlace : ℕ → ℕ → Bool → List Stored → Type 0
InPlace p n b [] = Unit {0}
InPlace p n b (bytes_at o ys ∷ xs) = (b ≡ true → o + length ys ≤ n) × InPlace p n b xs
InPlace p n b (string_at o ∷ xs) = (b ≡ true → o + 4 ≤ n) × InPlace p n b xs
InPlace p n b (array_at o size k ∷ xs) = (b ≡ false) × InPlace o (size * k) b xs
InPlace p n b (set_at o ∷ xs) = (o ≡ p) × InPlace p n true xs
InPlace p n b (go_back ∷ xs) = InPlace p n false xs

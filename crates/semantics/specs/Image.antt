-- The image of the module's data, and the area its arrays are filled in: zeros, then each item in order.
use Rattle.std.specs.Prelude.{ℕ, suc, ◌+◌, ◌-◌, ◌*◌, cond, List, [], ◌∷◌, ◌++◌, length, take, drop, replicate, ℤ, eqb, Option, None, Some}
use Rattle.semantics.specs.Text.{Bytes, big_endian}
use Rattle.semantics.specs.Tree.{ElemKind}
use Rattle.semantics.specs.Sheet.{concat_map}
use Rattle.semantics.specs.Layout.{align_up}
use Rattle.semantics.specs.Fold.{bits64, real_bytes}
use Rattle.semantics.specs.Global.{Values, Item, Globals}
use Rattle.semantics.specs.Global.Values.{byte_values, word_values, big_values, real_values}
use Rattle.semantics.specs.Global.Item.{values_item, str_item, array_item, set_item, back_item}
use Rattle.semantics.specs.Types.{elem_shape}

-- ---- bytes of values, big-endian

abbrev pub word_bytes : ℤ → Bytes
word_bytes z = big_endian 4 (bits64 z)

abbrev pub big_bytes : ℤ → Bytes
big_bytes z = big_endian 8 (bits64 z)

abbrev pub values_bytes : Values → Bytes
values_bytes (byte_values vs) = vs
values_bytes (word_values vs) = concat_map word_bytes vs
values_bytes (big_values vs) = concat_map big_bytes vs
values_bytes (real_values vs) = concat_map real_bytes vs

-- the handle of a string or array: its item number from 0, plus 1, in 4 bytes
abbrev pub handle : ℕ → Bytes
handle k = big_endian 4 (suc k)

-- ---- the area

abbrev pub elem_size : ElemKind → ℕ
elem_size k = (elem_shape k).size

-- an array's part of the area begins at the next multiple of 8
abbrev pub part_at : ℕ → ℕ
part_at end = align_up 8 end

-- where the area ends behind an item: an array takes its descriptor's size times its length
abbrev pub end_after : ℕ → Item → ℕ
end_after end (values_item o vs) = end
end_after end (str_item o s) = end
end_after end (array_item o k n) = part_at end + elem_size k * n
end_after end (set_item o) = end
end_after end back_item = end

abbrev pub area_after : ℕ → List Item → ℕ
area_after end [] = end
area_after end (i ∷ is) = area_after (end_after end i) is

-- ---- replay

-- the bytes xs with ys at place p; bytes between are zero
abbrev pub written : Bytes → ℕ → Bytes → Bytes
written xs p ys = take p (xs ++ replicate (p - length xs) 0) ++ (ys ++ drop (p + length ys) xs)

-- an array item's place in the module's data, and the start of its part of the area
pub record ArrayPart : Type 0 where
  pub place : ℕ
  pub start : ℕ

-- a replay so far: the number of the next item, image and area, the end of the parts, the parts, the newest first,
-- and the start of the part that is written to, none for the image
pub record Replay : Type 0 where
  pub item : ℕ
  pub image : Bytes
  pub area : Bytes
  pub end : ℕ
  pub parts : List ArrayPart
  pub inside : Option ℕ

-- the part of the newest array at a place
abbrev pub start_of : ℕ → List ArrayPart → ℕ
start_of off [] = 0
start_of off (p ∷ ps) = cond (eqb off p.place) p.start (start_of off ps)

-- bytes laid at an offset of the image, or of the part that is written to
abbrev pub lay : ℕ → Bytes → Option ℕ → Replay → Replay
lay off ys None r = record { item = suc r.item; image = written r.image off ys; area = r.area; end = r.end; parts = r.parts; inside = None }
lay off ys (Some start) r = record { item = suc r.item; image = r.image; area = written r.area (start + off) ys; end = r.end; parts = r.parts; inside = Some start }

abbrev pub with_part : ℕ → ℕ → Replay → Replay
with_part off end r = record { item = r.item; image = r.image; area = r.area; end = end; parts = record { place = off; start = part_at r.end } ∷ r.parts; inside = r.inside }

-- writing goes to the part that starts at i, or for none to the image
abbrev pub moved : Option ℕ → Replay → Replay
moved i r = record { item = suc r.item; image = r.image; area = r.area; end = r.end; parts = r.parts; inside = i }

abbrev pub replay_item : Item → Replay → Replay
replay_item (values_item o vs) r = lay o (values_bytes vs) r.inside r
replay_item (str_item o s) r = lay o (handle r.item) r.inside r
replay_item (array_item o k n) r = lay o (handle r.item) r.inside (with_part o (end_after r.end (array_item o k n)) r)
replay_item (set_item o) r = moved (Some (start_of o r.parts)) r
replay_item back_item r = moved None r

abbrev pub replay_all : List Item → Replay → Replay
replay_all [] r = r
replay_all (i ∷ is) r = replay_all is (replay_item i r)

-- over zeros: an image up to the end of allocation, which grows with a write past it, and an area for all parts
abbrev pub replay : ℕ → List Item → Replay
replay end is = replay_all is (record { item = 0; image = replicate end 0; area = replicate (area_after 0 is) 0; end = 0; parts = []; inside = None })

pub record Memory : Type 0 where
  pub image : Bytes
  pub area : Bytes

unfoldable pub memory_of : Globals → Memory
memory_of g = let r = replay g.end g.items in record { image = r.image; area = r.area }

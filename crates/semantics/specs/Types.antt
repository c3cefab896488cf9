-- Type lines: descriptor keys, their positions and IDs, and the descriptors.
use Rattle.std.specs.Prelude.{ℕ, suc, ◌+◌, Bool, true, false, ◌&&◌, cond, List, [], ◌∷◌, ◌++◌, map, length, ℤ, pos}
use Rattle.semantics.specs.Text.{Bytes, any}
use Rattle.semantics.specs.Tree.{ElemKind, TypeKey, Shape}
use Rattle.semantics.specs.Tree.ElemKind.{k_byte, k_word, k_big, k_real, k_ptr}
use Rattle.semantics.specs.Tree.TypeKey.{adt_key, elem_key, block_key, opaque_key}
use Rattle.semantics.specs.Sheet.{Source, concat_map}
use Rattle.semantics.specs.Layout.{Recorded, plain_record, recorded_adts, record_log, last_of}
use Rattle.semantics.specs.Fold.{eq_z}
use Rattle.semantics.specs.Array.{kind_number}
use Rattle.semantics.specs.Global.{Item}
use Rattle.semantics.specs.Global.Item.{values_item, str_item, array_item, set_item, back_item}

-- ---- keys

abbrev pub same_ints : List ℤ → List ℤ → Bool
same_ints [] [] = true
same_ints [] (y ∷ ys) = false
same_ints (x ∷ xs) [] = false
same_ints (x ∷ xs) (y ∷ ys) = eq_z x y && same_ints xs ys

-- integers for each key, by which keys are compared; the order of offsets counts
abbrev pub key_code : TypeKey → List ℤ
key_code (adt_key k) = pos 0 ∷ map pos k
key_code (elem_key k) = pos 1 ∷ pos (kind_number k) ∷ []
key_code (block_key s) = pos 2 ∷ (pos s.size ∷ s.pointers)
key_code opaque_key = pos 3 ∷ []

abbrev pub same_type_key : TypeKey → TypeKey → Bool
same_type_key j k = same_ints (key_code j) (key_code k)

-- an array's element key
abbrev pub array_key : Item → List TypeKey
array_key (values_item o vs) = []
array_key (str_item o s) = []
array_key (array_item o k n) = elem_key k ∷ []
array_key (set_item o) = []
array_key back_item = []

-- each key once, where it is first used
abbrev pub distinct : List TypeKey → List TypeKey → List TypeKey
distinct before [] = []
distinct before (k ∷ ks) = cond (any (same_type_key k) before) (distinct before ks) (k ∷ distinct (k ∷ before) ks)

-- the keys that get descriptors behind the frames: needs, then array elements
unfoldable pub keys : Source → List Item → List TypeKey
keys s is = distinct [] (s.needs ++ concat_map array_key is)

-- how many keys stand before a key
abbrev pub position : TypeKey → List TypeKey → ℕ
position k [] = 0
position k (j ∷ js) = cond (same_type_key k j) 0 (suc (position k js))

-- a key's ID, behind two opaque records and the frames
abbrev pub id_of : Source → List Item → TypeKey → ℕ
id_of s is k = 2 + length s.frames + position k (keys s is)

-- ---- descriptors

-- an opaque record: 12 words, all pointers
unfoldable pub opaque_shape : Shape
opaque_shape = record { size = 48; pointers = map pos (0 ∷ 4 ∷ 8 ∷ 12 ∷ 16 ∷ 20 ∷ 24 ∷ 28 ∷ 32 ∷ 36 ∷ 40 ∷ 44 ∷ []) }

abbrev pub elem_shape : ElemKind → Shape
elem_shape k_byte = record { size = 1; pointers = [] }
elem_shape k_word = record { size = 4; pointers = [] }
elem_shape k_big = record { size = 8; pointers = [] }
elem_shape k_real = record { size = 8; pointers = [] }
elem_shape k_ptr = record { size = 4; pointers = pos 0 ∷ [] }

-- an unknown record: size 4, no pointers
abbrev pub unknown : Bytes → Recorded
unknown k = plain_record k (record { size = 4; pointers = [] }) []

abbrev pub key_shape : List Recorded → TypeKey → Shape
key_shape rs (adt_key k) = (last_of k (unknown k) rs).shape
key_shape rs (elem_key k) = elem_shape k
key_shape rs (block_key s) = s
key_shape rs opaque_key = opaque_shape

unfoldable pub descriptors : Source → List Item → List Shape
descriptors s is = opaque_shape ∷ (opaque_shape ∷ (s.frames ++ map (key_shape (record_log (recorded_adts s))) (keys s is)))

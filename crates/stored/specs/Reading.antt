-- What the rows of a listing say of items and of the sizes of descriptors. Each function is total: a number that is missing is 0.
use Rattle.std.specs.Prelude.{ℕ, ◌-◌, ◌^◌, min, Bool, true, false, ◌&&◌, cond, List, [], ◌∷◌, ◌++◌, length, drop, get_or, ltb, eqb, ℤ, Option, None, Some}
use Rattle.semantics.specs.Text.{Bytes, bytes, same, int_of, unhex, big_endian, from_big_endian, line_parts, fields_of}
use Rattle.semantics.specs.Form.{between, number_of}
use Rattle.semantics.specs.Fold.{bits64}
use Rattle.semantics.specs.Sheet.{concat_map}
use Rattle.stored.specs.Stored.{Stored, bytes_at, string_at, array_at, set_at, go_back}

-- ---- fields

-- a shut name of `number_of`
unfoldable pub number_read : Bytes → ℕ
number_read f = number_of f

-- the bits of an integer of 64 bits
abbrev pub integer_bits : Option ℤ → ℕ
integer_bits None = 0
integer_bits (Some z) = cond (between (2 ^ 63) (2 ^ 63 - 1) z) (bits64 z) 0

-- the bits that eight bytes hold
abbrev pub real_bits : Option Bytes → ℕ
real_bits None = 0
real_bits (Some bs) = cond (eqb (length bs) 8) (from_big_endian 0 bs) 0

-- the bits of a value: a real's, or an integer's
unfoldable pub bits_in : Bool → Bytes → ℕ
bits_in true f = real_bits (unhex f)
bits_in false f = integer_bits (int_of f)

-- values one after the other, each in w bytes
unfoldable pub row_values : ℕ → Bool → List Bytes → Bytes
row_values w is_real [] = []
row_values w is_real (f ∷ fs) = big_endian w (bits_in is_real f) ++ row_values w is_real fs

-- ---- items

-- the number of a keyword behind `dat`, 0 where it is none
unfoldable pub keyword_of : Bytes → ℕ
keyword_of f =
    cond (same f (bytes "bytes")) 1
    (cond (same f (bytes "words")) 2
    (cond (same f (bytes "bigs")) 3
    (cond (same f (bytes "reals")) 4
    (cond (same f (bytes "str")) 5
    (cond (same f (bytes "array")) 6
    (cond (same f (bytes "set")) 7
    (cond (same f (bytes "back")) 8 0)))))))

-- the bytes that a value takes, by its keyword: bytes, words, and bigs and reals
abbrev pub width_of : ℕ → ℕ
width_of k = cond (eqb k 1) 1 (cond (eqb k 2) 4 8)

-- the item of a keyword, with an offset, two more numbers and values
abbrev pub item_by : (ℕ → ℕ) → ℕ → ℕ → ℕ → ℕ → List Bytes → List Stored
item_by sizes k o id n fs =
    cond (eqb k 0) []
    (cond (ltb k 5) (bytes_at o (row_values (width_of k) (eqb k 4) fs) ∷ [])
    (cond (eqb k 5) (string_at o ∷ [])
    (cond (eqb k 6) (array_at o (sizes id) n ∷ [])
    (cond (eqb k 7) (set_at o ∷ []) (go_back ∷ [])))))

-- the item of a row by its fields, where a size is known for each ID; none of a row other than `dat`
unfoldable pub read_row : (ℕ → ℕ) → List Bytes → List Stored
read_row sizes fs =
    cond (same (get_or fs 0 []) (bytes "dat"))
    (item_by sizes (keyword_of (get_or fs 1 [])) (number_read (get_or fs 2 [])) (number_read (get_or fs 3 [])) (number_read (get_or fs 4 [])) (drop 4 fs)) []

-- the items of rows
unfoldable pub read_rows : (ℕ → ℕ) → List Bytes → List Stored
read_rows sizes ls = concat_map (λ (l : Bytes). read_row sizes (fields_of l)) ls

unfoldable pub read_all : (ℕ → ℕ) → Bytes → List Stored
read_all sizes t = read_rows sizes (line_parts t)

-- ---- sizes of descriptors

-- sizes are read up to this one, which stands for every larger one; elements of arrays have 1, 4 or 8 bytes
abbrev pub largest_size : ℕ
largest_size = 255

-- the size of descriptor i behind a row, d before it
unfoldable pub size_by : ℕ → List Bytes → ℕ → ℕ
size_by i fs d = cond (same (get_or fs 0 []) (bytes "typ") && eqb (number_read (get_or fs 1 [])) i) (min (number_read (get_or fs 2 [])) largest_size) d

unfoldable pub size_rows : ℕ → ℕ → List Bytes → ℕ
size_rows i d [] = d
size_rows i d (l ∷ ls) = size_rows i (size_by i (fields_of l) d) ls

-- the IDs of descriptors lie below this number
abbrev pub most_types : ℕ
most_types = 1024

-- the size that the `typ` rows of a text give for an ID, 0 where they give none
unfoldable pub size_in : Bytes → ℕ → ℕ
size_in t i = cond (ltb i most_types) (size_rows i 0 (line_parts t)) 0

-- The text of a listing laid in buffers, by computation.
use Prim.Native.Nat.{ℕ}
use mathlib.Core.Path.{◌≡◌, refl}
use mathlib.Core.Bool.{false}
use mathlib.Core.List.{[], ◌∷◌}
use Rattle.std.specs.Prelude.{Option, None, Some}
use Rattle.semantics.specs.Text.{Bytes, bytes, nat_of, int_of, unhex, big_endian}
use Rattle.write.specs.Wrote.{over}
use Rattle.stored.specs.Reading.{number_read, bits_in, row_values, keyword_of, read_row, read_rows, read_all, size_by, size_rows, size_in}
use Rattle.stored.specs.Laying.{Laying, lay_image, lay_part, lay_bytes, lay_array, lay_all, laying_start}

-- an array of three bytes, one of an int, and a real
abbrev text : Bytes
text = bytes "glo,a,0,4,1\nglo,b,4,4,1\nglo,r,8,8,0\ndat,array,0,3,3\ndat,set,0,0\ndat,bytes,0,3,1,2,255\ndat,back\ndat,array,4,2,1\ndat,set,4,0\ndat,words,0,1,-2\ndat,back\ndat,reals,8,1,3FF8000000000000\ntyp,0,48,12,FFF0\ntyp,1,48,12,FFF0\ntyp,2,4,0,00\ntyp,3,1,0,00\n"

-- in buffers of so many bytes
abbrev laid : ℕ → ℕ → Option Laying
laid image area = lay_all (read_all (size_in text) text) (laying_start 16 image area)

-- handles of items 0 and 4, the real's bits, and a byte to spare; parts of 3 and 4 bytes, at 0 and 8, and a byte to spare
abbrev all_laid : Laying
all_laid = record {
  item = 9;
  image = 0 ∷ 0 ∷ 0 ∷ 1 ∷ 0 ∷ 0 ∷ 0 ∷ 5 ∷ 63 ∷ 248 ∷ 0 ∷ 0 ∷ 0 ∷ 0 ∷ 0 ∷ 0 ∷ 0 ∷ [];
  area = 1 ∷ 2 ∷ 255 ∷ 0 ∷ 0 ∷ 0 ∷ 0 ∷ 0 ∷ 255 ∷ 255 ∷ 255 ∷ 254 ∷ 0 ∷ [];
  start = 8;
  end = 12;
  inside = false;
  long = 16;
}

text-laid : (laid 17 13 ∷ laid 15 13 ∷ laid 17 11 ∷ []) ≡ (Some all_laid ∷ None ∷ None ∷ [])
unfolding nat_of int_of unhex big_endian over number_read bits_in row_values keyword_of read_row read_rows read_all size_by size_rows size_in lay_image lay_part lay_bytes lay_array laying_start
text-laid = refl

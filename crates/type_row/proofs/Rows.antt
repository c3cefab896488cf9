-- Rows of types one behind the other, and one row field by field.
use mathlib.Core.Path.{◌≡◌, sym}
use mathlib.Core.List.{List, [], ◌∷◌, ◌++◌, append_assoc, append-nil}
use Prim.Native.Nat.{ℕ, suc, ◌+◌}
use native.Mathlib.Omega.{arith}
use lib.IntN.{ℤ}
use lib.ListN.{length, take, drop}
use Rattle.semantics.specs.Text.{Bytes, bytes, decimal, hex_of}
use Rattle.semantics.specs.Tree.{Shape}
use Rattle.semantics.specs.Layout.{map_length, pointer_map, pointer_count}
use Rattle.semantics.specs.Listing.{row, type_rows}
use Rattle.write.specs.declared.Writer.{Writer}
use Rattle.write.specs.Writes.{Writes}
use Rattle.write.proofs.Writes.{writes_as, writes_then}
use Rattle.maps.specs.Maps.{map_in}

pub rows_append : (id : ℕ) (xs ys : List Shape) → type_rows id (xs ++ ys) ≡ type_rows id xs ++ type_rows (id + length xs) ys
unfolding type_rows
rows_append id [] ys = let z : id + 0 ≡ id = omega arith in rw z
rows_append id (x ∷ xs) ys =
    let z : id + suc (length xs) ≡ suc id + length xs = omega arith in
    rw (rows_append (suc id) xs ys, z) (sym (append_assoc (row _) (type_rows (suc id) xs) (type_rows (suc id + length xs) ys)))

-- more rows behind rows
pub rows_then : (id : ℕ) (xs ys : List Shape) {u v w : Writer} (j : ℕ) → j ≡ id + length xs → Writes u (type_rows id xs) v → Writes v (type_rows j ys) w → Writes u (type_rows id (xs ++ ys)) w
rows_then id xs ys j h a b = writes_as (sym (rows_append id xs ys)) (writes_then a (rw h at b))

-- the map as a part of the working space
pub map-part : (t : Bytes) (size n : ℕ) → n ≡ map_length size → take n (drop 49152 t) ≡ map_in t size
unfolding map_in
map-part t size n e = rw e

-- the row of a shape whose map is m
module _ (id size : ℕ) (m : Bytes) (offs : List ℤ) (e : m ≡ pointer_map size offs) where
  row_is : row (bytes "typ" ∷ decimal id ∷ decimal size ∷ decimal (pointer_count m) ∷ hex_of m ∷ []) ≡ type_rows id (record { size = size; pointers = offs } ∷ [])
  unfolding type_rows
  row_is = rw e (sym (append-nil (row _)))

  pub type_row : {w0 w1 w2 w3 w4 w5 w6 : Writer} (count : ℕ) → count ≡ pointer_count m
      → Writes w0 (bytes "typ") w1 → Writes w1 (44 ∷ decimal id) w2 → Writes w2 (44 ∷ decimal size) w3
      → Writes w3 (44 ∷ decimal count) w4 → Writes w4 (44 ∷ hex_of m) w5 → Writes w5 (10 ∷ []) w6
      → Writes w0 (type_rows id (record { size = size; pointers = offs } ∷ [])) w6
  unfolding row
  type_row count h a b c d e f = writes_as row_is (writes_then a (writes_then b (writes_then c (writes_then (rw h at d) (writes_then e f)))))

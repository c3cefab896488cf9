-- The text of numbers as elements of arrays.
use Rattle.std.specs.Prelude.{ℕ, List, ◌∷◌, ◌++◌, map, length}
use Rattle.semantics.specs.Text.{Bytes, bytes, decimal, decimalℤ}
use Rattle.semantics.specs.Tree.{ConstVal, ElemKind}
use Rattle.semantics.specs.Tree.ElemKind.{k_byte, k_word, k_big, k_real, k_ptr}
use Rattle.semantics.specs.Array.{const_byte, const_word, const_big, const_real}
use Rattle.semantics.specs.Listing.{real_text, row}

-- an element as a number, by its array's kind
abbrev pub element_text : ElemKind → ConstVal → Bytes
element_text k_byte v = decimal (const_byte v)
element_text k_word v = decimalℤ (const_word v)
element_text k_big v = decimalℤ (const_big v)
element_text k_real v = real_text (const_real v)
element_text k_ptr v = real_text (const_real v)

abbrev pub element_texts : ElemKind → List ConstVal → List Bytes
element_texts k vs = map (element_text k) vs

-- the keyword of numbers of a kind
abbrev pub kind_name : ElemKind → Bytes
kind_name k_byte = bytes "bytes"
kind_name k_word = bytes "words"
kind_name k_big = bytes "bigs"
kind_name k_real = bytes "reals"
kind_name k_ptr = bytes "reals"

-- what stands in front of n numbers of a kind at an offset
unfoldable pub head_text : ElemKind → ℕ → ℕ → Bytes
head_text k off n = bytes "dat" ++ ((44 ∷ kind_name k) ++ ((44 ∷ decimal off) ++ (44 ∷ decimal n)))

-- the row of numbers of a kind at an offset
unfoldable pub values_row : ElemKind → ℕ → List ConstVal → Bytes
values_row k off vs = row (bytes "dat" ∷ kind_name k ∷ decimal off ∷ decimal (length vs) ∷ element_texts k vs)

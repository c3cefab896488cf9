-- The rows of a text are read one after the other, where no field holds a separator.
use Prim.Native.Nat.{ℕ}
use native.Mathlib.Omega.{arith}
use mathlib.Core.Path.{◌≡◌, refl, ap, ◌∙◌}
use mathlib.Core.Bool.{Bool, true, false, ◌&&◌}
use mathlib.Core.List.{List, [], ◌∷◌, ◌++◌, append_assoc}
use lib.Dec.{eqb, ltb}
use borrow.Author.Tests.{ltb-true, ne_eqb}
use Rattle.semantics.specs.Text.{Bytes, cut, head_part, tail_parts, parts_at, line_parts, fields_of}
use Rattle.semantics.specs.Sheet.{concat_map}
use Rattle.semantics.specs.Listing.{row}
use Rattle.semantics.proofs.Common.{never}
use Rattle.write.specs.Plain.{is_plain_text}
use Rattle.write.proofs.Uncut.{plain-part, plain-last}
use Rattle.stored.specs.Reading.{read_row, read_rows, read_all, size_by, size_rows}

-- fields without separators
abbrev pub Plain : List Bytes → Type 0
Plain [] = Unit {0}
Plain (f ∷ fs) = (is_plain_text f ≡ true) × Plain fs

-- a row without its LF
abbrev pub row_text : Bytes → List Bytes → Bytes
row_text f [] = f
row_text f (g ∷ fs) = f ++ (44 ∷ row_text g fs)

-- a plain text stands before the first part of what follows
plain-ahead : (t u : Bytes) → is_plain_text t ≡ true → parts_at 10 (t ++ u) ≡ (t ++ head_part (parts_at 10 u)) ∷ tail_parts (parts_at 10 u)
unfolding is_plain_text
plain-ahead [] u h = go u
  where
    go : (u : Bytes) → parts_at 10 u ≡ head_part (parts_at 10 u) ∷ tail_parts (parts_at 10 u)
    go [] = refl
    go (b ∷ u) = cut-one (eqb b 10) b (parts_at 10 u)
      where
        cut-one : (x : Bool) (b : ℕ) (ps : List Bytes) → cut x b ps ≡ head_part (cut x b ps) ∷ tail_parts (cut x b ps)
        cut-one true b ps = refl
        cut-one false b ps = refl
plain-ahead (b ∷ t) u h = go (ltb 44 b) refl h (λ l. plain-ahead t u l)
  where
    go : (x : Bool) → ltb 44 b ≡ x → x && is_plain_text t ≡ true → (is_plain_text t ≡ true → parts_at 10 (t ++ u) ≡ (t ++ head_part (parts_at 10 u)) ∷ tail_parts (parts_at 10 u))
        → parts_at 10 (b ∷ (t ++ u)) ≡ (b ∷ (t ++ head_part (parts_at 10 u))) ∷ tail_parts (parts_at 10 u)
    go true e h ih = let l = ltb-true 44 b e in rw (ne_eqb b 10 (λ (q : b ≡ 10). omega arith), ih h)
    go false e h ih = never cc

-- a row is the first line, and its fields are those that it was made of
row_line : (f : Bytes) (fs : List Bytes) (rest : Bytes) → Plain (f ∷ fs) → line_parts (row (f ∷ fs) ++ rest) ≡ row_text f fs ∷ line_parts rest
unfolding row
row_line f [] rest h = ap line_parts (append_assoc f (10 ∷ []) rest) ∙ plain-part 10 (omega arith) f rest h.0
row_line f (g ∷ fs) rest h =
    ap line_parts (append_assoc f (44 ∷ row (g ∷ fs)) rest)
    ∙ plain-ahead f (44 ∷ (row (g ∷ fs) ++ rest)) h.0
    ∙ rw (row_line g fs rest h.1)

line-fields : (f : Bytes) (fs : List Bytes) → Plain (f ∷ fs) → fields_of (row_text f fs) ≡ f ∷ fs
line-fields f [] h = plain-last 44 (omega arith) f h.0
line-fields f (g ∷ fs) h = plain-part 44 (omega arith) f (row_text g fs) h.0 ∙ ap (λ (ps : List Bytes). f ∷ ps) (line-fields g fs h.1)

-- so a row is read before the rest
pub read-row : (sizes : ℕ → ℕ) (f : Bytes) (fs : List Bytes) (rest : Bytes) → Plain (f ∷ fs)
    → read_all sizes (row (f ∷ fs) ++ rest) ≡ read_row sizes (f ∷ fs) ++ read_all sizes rest
unfolding read_all read_rows
read-row sizes f fs rest h =
    ap (concat_map (λ (l : Bytes). read_row sizes (fields_of l))) (row_line f fs rest h)
    ∙ ap (λ (ps : List Bytes). read_row sizes ps ++ concat_map (λ (l : Bytes). read_row sizes (fields_of l)) (line_parts rest)) (line-fields f fs h)

pub size-row : (i d : ℕ) (f : Bytes) (fs : List Bytes) (rest : Bytes) → Plain (f ∷ fs)
    → size_rows i d (line_parts (row (f ∷ fs) ++ rest)) ≡ size_rows i (size_by i (f ∷ fs) d) (line_parts rest)
unfolding size_rows
size-row i d f fs rest h =
    ap (size_rows i d) (row_line f fs rest h)
    ∙ ap (λ (ps : List Bytes). size_rows i (size_by i ps d) (line_parts rest)) (line-fields f fs h)

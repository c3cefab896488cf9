-- All rows of types together.
use mathlib.Core.Path.{◌≡◌, refl, sym, ap, ◌∙◌}
use mathlib.Core.List.{List, [], ◌∷◌, ◌++◌, map, append_assoc, append-nil, map-append}
use Prim.Native.Nat.{ℕ, ◌≤◌}
use native.Mathlib.Omega.{arith}
use lib.ListN.{length, drop}
use lib.Seq.{drop_at}
use Rattle.semantics.specs.Tree.{TypeKey, Shape}
use Rattle.semantics.specs.Sheet.{sheet_source, concat_map}
use Rattle.semantics.specs.Global.{Item}
use Rattle.semantics.specs.Types.{distinct, array_key, keys, key_shape, opaque_shape, descriptors}
use Rattle.semantics.specs.Listing.{type_rows}
use Rattle.write.specs.declared.Writer.{Writer}
use Rattle.write.specs.Writes.{Writes}
use Rattle.write.proofs.Writes.{writes_as}
use Rattle.checks.specs.Checks.{Checked}
use Rattle.records.specs.Log.{log_of}
use Rattle.type_keys.proofs.Distinct.{new_key, distinct_more}
use Rattle.type_lines.proofs.Frames.{frames-all, frames-few}
use Rattle.type_row.specs.Row.{TypesWrote}
use Rattle.type_rows.specs.Rows.{shapes_of}
use Rattle.type_rows.proofs.Wrotes.{types-then}
use Rattle.lines.specs.Lines.{lines_in}

-- keys keep their positions when more come
record Longer (l k : List TypeKey) : Type 0 where
  rest : List TypeKey
  is : k ≡ l ++ rest

longer : (l ms : List TypeKey) → Longer (distinct [] l) (distinct [] (l ++ ms))
longer l [] = record { rest = []; is = ap (distinct []) (append-nil l) ∙ sym (append-nil (distinct [] l)) }
longer l (m ∷ ms) =
    let z : (l ++ (m ∷ [])) ++ ms ≡ l ++ (m ∷ ms) = append_assoc l (m ∷ []) ms in
    let x = longer (l ++ (m ∷ [])) ms in
    record { rest = new_key m (distinct [] l) ++ x.rest; is = ap (distinct []) (sym z) ∙ x.is ∙ rw (distinct_more m l) (append_assoc (distinct [] l) (new_key m (distinct [] l)) x.rest) }

keys-split : (l ms : List TypeKey) → distinct [] (l ++ ms) ≡ distinct [] l ++ drop (length (distinct [] l)) (distinct [] (l ++ ms))
keys-split l ms =
    let x = longer l ms in
    x.is ∙ ap (λ (r : List TypeKey). distinct [] l ++ r) (sym (ap (drop (length (distinct [] l))) x.is ∙ drop_at (distinct [] l) x.rest (length (distinct [] l)) refl))

descriptors-are : (s : List ℕ) (is : List Item) → descriptors (sheet_source s) is
    ≡ (opaque_shape ∷ opaque_shape ∷ []) ++ ((sheet_source s).frames ++ (shapes_of s (distinct [] (sheet_source s).needs) ++ shapes_of s (drop (length (distinct [] (sheet_source s).needs)) (distinct [] ((sheet_source s).needs ++ concat_map array_key is)))))
unfolding descriptors keys log_of
descriptors-are s is =
    ap (λ (xs : List Shape). opaque_shape ∷ (opaque_shape ∷ ((sheet_source s).frames ++ xs)))
    (ap (map (key_shape (log_of s))) (keys-split (sheet_source s).needs (concat_map array_key is)) ∙ map-append (key_shape (log_of s)) (distinct [] (sheet_source s).needs) (drop (length (distinct [] (sheet_source s).needs)) (distinct [] ((sheet_source s).needs ++ concat_map array_key is))))

pub all-rows : (s : List ℕ) (is : List Item) {a b c d : ℕ} {w0 w1 w2 w3 w4 : Writer} {t0 t1 t2 t3 t4 : List ℕ}
    → TypesWrote (opaque_shape ∷ opaque_shape ∷ []) 0 a w0 w1 t0 t1 → TypesWrote (sheet_source s).frames a b w1 w2 t1 t2
    → TypesWrote (shapes_of s (distinct [] (sheet_source s).needs)) b c w2 w3 t2 t3
    → TypesWrote (shapes_of s (drop (length (distinct [] (sheet_source s).needs)) (distinct [] ((sheet_source s).needs ++ concat_map array_key is)))) c d w3 w4 t3 t4
    → Writes w0 (type_rows 0 (descriptors (sheet_source s) is)) w4
all-rows s is x0 x1 x2 x3 =
    let a = shapes_of s (distinct [] (sheet_source s).needs) in
    let b = shapes_of s (drop (length (distinct [] (sheet_source s).needs)) (distinct [] ((sheet_source s).needs ++ concat_map array_key is))) in
    let fs = (sheet_source s).frames in
    writes_as (ap (type_rows 0) (sym (descriptors-are s is))) (types-then (opaque_shape ∷ opaque_shape ∷ []) (fs ++ (a ++ b)) x0 (types-then fs (a ++ b) x1 (types-then a b x2 x3))).wrote

pub frames-low : (s : List ℕ) → Checked s → length (sheet_source s).frames ≤ 128
frames-low s c = rw (← frames-all s c) (frames-few s c (lines_in s) (omega arith))

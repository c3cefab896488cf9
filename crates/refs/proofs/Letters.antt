-- The references of a line by the letters of its form.
use mathlib.Core.Path.{◌≡◌, refl, sym, ap, ◌∙◌}
use mathlib.Core.Bool.{true}
use mathlib.Core.List.{List, [], ◌∷◌, ◌++◌}
use Rattle.std.specs.Prelude.{Option, None, Some}
use Prim.Native.Nat.{ℕ, ◌+◌, ◌-◌, ◌≤◌, ◌<◌, min}
use native.Mathlib.Omega.{arith}
use lib.Dec.{leb, ltb}
use lib.ListN.{length}
use borrow.Author.Tests.{lt-ltb, le-ltb, leb-true, ltb-true}
use Rattle.semantics.specs.Text as Text
use Rattle.semantics.specs.Form as Form
use Rattle.semantics.specs.Form.Atom.{name, key, ref, maybe, unary_op, binary_op, line_or_col, size, i64, offset, real, text}
use Rattle.semantics.specs.Form.Part.{one, many}
use Rattle.semantics.specs.Refusal as Refusal
use Rattle.decimal.specs.Number as Number
use Rattle.form.specs.declared.Walk.{Walk}
use Rattle.form.specs.Table.{code, codes, row_at}
use Rattle.form.specs.Letters.{after, letters_left, letter_holds, letters_from, fields_left, beginning, WalkAt, WalkStepped}
use Rattle.semantics.proofs.Common.{both}
use Rattle.form.proofs.Table.{fine, parts-fine}
use Rattle.form.proofs.Laws.{fields-end, one-after, many-after, ones-fine, kind-letter, ref-holds, walk_begins}
use Rattle.lines.specs.Lines.{lines_in, text_at, read_at, form_at, Whole}
use Rattle.lines.proofs.Line.{form-low, form-is, fields-are, read_fits}
use Rattle.refs.specs.Refs.{is_ref, wanted_by, ref_by, refs_by}

-- ---- letters say what the table's parts say

not-ref : (x : ℕ) (f : List ℕ) (rs : List Refusal.Ref) → 80 ≤ x → ref_by x f rs ≡ rs
unfolding ref_by
not-ref x f rs h = rw (lt-ltb 32 x (omega arith), le-ltb x 80 h)

ref-code : (k : Form.Kind) (f : List ℕ) (rs : List Refusal.Ref) → ref_by (Form.letter k) f rs ≡ Refusal.ref_of (ref k) f rs
unfolding ref_by
ref-code k f rs = let h = kind-letter k in simp (lt-ltb 32 (Form.letter k) (omega arith), lt-ltb (Form.letter k) 80 h.1, le-ltb (Form.letter k) 64 (omega arith))

maybe-code : (k : Form.Kind) (f : List ℕ) (rs : List Refusal.Ref) → ref_by (Form.letter k - 32) f rs ≡ Refusal.ref_of (maybe k) f rs
unfolding ref_by
maybe-code k f rs =
    let h = kind-letter k in
    let e : Form.letter k - 32 + 32 ≡ Form.letter k = omega arith in
    simp (lt-ltb 32 (Form.letter k - 32) (omega arith), lt-ltb (Form.letter k - 32) 80 (omega arith), lt-ltb (Form.letter k - 32) 64 (omega arith), e)

atom-code : (a : Form.Atom) (f : List ℕ) (rs : List Refusal.Ref) → ref_by (code a) f rs ≡ Refusal.ref_of a f rs
unfolding ref_by
atom-code name f rs = refl
atom-code key f rs = refl
atom-code (ref k) f rs = ref-code k f rs
atom-code (maybe k) f rs = maybe-code k f rs
atom-code unary_op f rs = refl
atom-code binary_op f rs = refl
atom-code line_or_col f rs = refl
atom-code size f rs = refl
atom-code i64 f rs = refl
atom-code offset f rs = refl
atom-code real f rs = refl
atom-code text f rs = refl

no-letters : (fs : List (List ℕ)) → refs_by [] fs ≡ []
unfolding refs_by ref_by after
no-letters [] = refl
no-letters (f ∷ fs) = no-letters fs

refs-codes : (fs : List (List ℕ)) (ps : List Form.Part) → Text.all fine ps ≡ true → refs_by (codes ps) fs ≡ Refusal.refs_in ps fs
unfolding refs_by fine
refs-codes [] [] h = refl
refs-codes [] (one a ∷ ps) h = refl
refs-codes [] (many a ∷ ps) h = refl
refs-codes (f ∷ fs) [] h = no-letters (f ∷ fs)
refs-codes (f ∷ fs) (one a ∷ ps) h = rw (one-after (Form.number_of f) a (codes ps), refs-codes fs ps h) (atom-code a f (Refusal.refs_in ps fs))
refs-codes (f ∷ fs) (many a ∷ ps) h =
    let w = both (leb 65 (code a)) (Text.all fine ps) h in
    let k = leb-true 65 (code a) w.0 in
    rw (many-after (Form.number_of f) a ps w.0, refs-codes fs (Form.ones (Form.number_of f) a ++ ps) (ones-fine (Form.number_of f) a ps w.1))
    (not-ref (code a + 32) f _ (omega arith))

pub ref-range : (x : ℕ) → is_ref x ≡ true → (32 < x) × (x < 80)
ref-range x e = let w = both (ltb 32 x) (ltb x 80) e in (ltb-true 32 x w.0, ltb-true x 80 w.1)

-- the number of a reference, as it is read
pub ref-number : (x : ℕ) (f : List ℕ) → is_ref x ≡ true → letter_holds x f ≡ true → Number.number_up_to 65536 f ≡ min (Form.number_of f) 65536
unfolding Number.number_up_to
ref-number x f e h = go (Text.nat_of f) (ltb-true _ _ (sym (ref-holds x f (ref-range x e).0 (ref-range x e).1) ∙ h))
  where
    go : (o : Option ℕ) → Number.capped 65536 o < 65537 → Number.capped 65536 o ≡ min (Text.or_else 0 o) 65536
    go None k = absurd (omega arith)
    go (Some m) k = refl

-- what a reference is by its letter and field
unfoldable pub as_ref : ℕ → List ℕ → Refusal.Ref
as_ref x f = record { kind = wanted_by x; optional = ltb x 64; line = Form.number_of f }

-- ---- the walk over a line

-- the references from where the walk stands on
unfoldable pub refs_left : ℕ → List ℕ → Walk → List Refusal.Ref
refs_left f l w = refs_by (letters_from f w) (fields_left l w)

module _ (s : List ℕ) (i : ℕ) (w : Whole s) (h : i < lines_in s) (l : List ℕ) (f : ℕ) (hl : l ≡ text_at s i) (hf : f ≡ form_at s i) where
  pub refs-begin : Refusal.refs_of (read_at s i) ≡ refs_by (letters_from f (beginning f)) (fields_left l (beginning f))
  unfolding letters_left
  refs-begin =
      rw (form-is s w i h, fields-are s w i h, hf, hl)
      (sym (refs-codes _ (row_at (form_at s i)).parts (parts-fine (form_at s i) (form-low s w i h))))

  pub stands : WalkAt f l (beginning f)
  stands = rw (hf, hl) (walk_begins (form_at s i) (text_at s i) (form-low s w i h) (rw (fields-are s w i h) at (read_fits s w i h)))

pub refs-step : (f : ℕ) (l : List ℕ) (w u : Walk) (x v : ℕ) (q : WalkStepped f l w x v u) → refs_by (letters_from f w) (fields_left l w) ≡ ref_by x q.field (refs_by (letters_from f u) (fields_left l u))
unfolding refs_by
refs-step f l w u x v q = ap (refs_by (letters_from f w)) q.fields ∙ rw (← q.letter, ← q.letters)

pub refs_end : (f : ℕ) (l : List ℕ) (w : Walk) → length l < w.at → refs_by (letters_from f w) (fields_left l w) ≡ []
unfolding refs_by
refs_end f l w h = rw (fields-end w.at l h)

-- ---- bytes above the tables of lines may change

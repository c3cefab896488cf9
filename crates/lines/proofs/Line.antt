-- What the tables say of a line: its form, and the fields that its form has.
use mathlib.Core.Path.{◌≡◌, refl, sym, ap, ◌∙◌}
use mathlib.Core.Bool.{Bool, true, not, ◌&&◌, ◌||◌}
use mathlib.Core.List.{List, [], ◌∷◌}
use Prim.Native.Nat.{ℕ, zero, suc, ◌+◌, ◌-◌, ◌≤◌, ◌<◌}
use native.Mathlib.Omega.{arith}
use lib.Dec.{leb, ltb, eqb}
use lib.ListN.{length, get_or}
use borrow.Author.Tests.{leb-true, ltb-true}
use Rattle.semantics.specs.Text.{line_parts}
use Rattle.semantics.specs.Form as Form
use Rattle.semantics.specs.Sheet.{reads_of}
use Rattle.semantics.specs.Refusal.{no_read}
use Rattle.form.specs.Table.{row_count, row_at, kind_at, fields_behind}
use Rattle.semantics.proofs.Common.{both}
use Rattle.form.proofs.Table.{row-count}
use Rattle.lines.specs.Lines.{text_at, reads_in, read_at, form_at, form_kept, lines_in, Whole, Lined, Indexed}

-- ---- a line that has a form

all4 : (a b c d : Bool) → a && b && c && d ≡ true → (a ≡ true) × (b ≡ true) × (c ≡ true)
all4 a b c d h =
    let x = both (a && b && c) d h in
    let y = both (a && b) c x.0 in
    let z = both a b y.0 in
    (z.0, z.1, y.1)

module _ (k : ℕ) (l : List ℕ) (h : Form.formed k l ≡ true) where
  formed-parts : (leb (length l) 255 ≡ true) × (ltb (Form.row_of Form.forms l) (length Form.forms) ≡ true) × (Form.fits (Form.read_of l).form.parts (Form.read_of l).fields ≡ true)
  unfolding Form.formed
  formed-parts =
      all4 (leb (length l) 255) (ltb (Form.row_of Form.forms l) (length Form.forms)) (Form.fits (Form.read_of l).form.parts (Form.read_of l).fields)
      (eqb k 1 || not (Form.same_kind (Form.read_of l).form.kind Form.Kind.k_impl)) h

  pub line-short : length l ≤ 255
  line-short = leb-true (length l) 255 formed-parts.0

  pub row_below : Form.row_of Form.forms l < row_count
  row_below = rw row-count at (ltb-true (Form.row_of Form.forms l) (length Form.forms) formed-parts.1)

  pub fields_fit : Form.fits (Form.read_of l).form.parts (Form.read_of l).fields ≡ true
  fields_fit = formed-parts.2

-- ---- lines among all lines

reads_at : (ps : List (List ℕ)) (j : ℕ) → suc j < length ps → get_or (reads_of ps) j no_read ≡ Form.read_of (get_or ps j [])
reads_at [] j h = absurd (omega arith)
reads_at (p ∷ []) j h = absurd (omega arith)
reads_at (p ∷ (q ∷ ps)) zero h = refl
reads_at (p ∷ (q ∷ ps)) (suc j) h = reads_at (q ∷ ps) j (omega arith)

reads-length : (ps : List (List ℕ)) → length (reads_of ps) ≡ length ps - 1
reads-length [] = refl
reads-length (p ∷ []) = refl
reads-length (p ∷ (q ∷ ps)) = let h = reads-length (q ∷ ps) in omega arith

pub line-count : (s : List ℕ) → length (reads_in s) ≡ lines_in s
unfolding lines_in
line-count s = refl

module _ (s : List ℕ) (w : Whole s) where
  module _ (i : ℕ) (h : i < lines_in s) where
    pub read_is : read_at s i ≡ Form.read_of (text_at s i)
    read_is = reads_at (line_parts s) i (omega (arith, w.count))

    pub form-low : form_at s i < row_count
    form-low = row_below (i + 1) (text_at s i) (w.good i h)

    pub form-is : (read_at s i).form ≡ row_at (form_at s i)
    unfolding Form.read_of
    form-is = ap (λ (r : Form.Read). r.form) read_is

    pub kind-is : Form.letter (read_at s i).form.kind ≡ kind_at (form_at s i)
    kind-is = ap (λ (r : Form.Row). Form.letter r.kind) form-is

    pub fields-are : (read_at s i).fields ≡ fields_behind (form_at s i) (text_at s i)
    unfolding Form.read_of
    fields-are = ap (λ (r : Form.Read). r.fields) read_is

    pub read_fits : Form.fits (row_at (form_at s i)).parts (read_at s i).fields ≡ true
    read_fits = rw (← form-is, read_is) (fields_fit (i + 1) (text_at s i) (w.good i h))

-- ---- lines that are in the table

count-is : (s : List ℕ) {n : ℕ} → length (line_parts s) ≡ n + 1 → lines_in s ≡ n
unfolding lines_in
count-is s e = reads-length (line_parts s) ∙ omega (arith, e)

pub indexed : {s t : List ℕ} {n : ℕ} → length t ≡ 3072 → Lined s t n → length (line_parts s) ≡ n + 1 → Indexed s t n
indexed {s} {t} {n} k l e =
    let q : lines_in s ≡ n = count-is s e in
    record { long = k; whole = record { few = rw q l.few; count = rw q e; good = λ i h. l.good i (rw q at h) }; count = sym q; lined = rw q l }

pub form-here : {s t : List ℕ} {n f : ℕ} → Indexed s t n → (i : ℕ) → i < lines_in s → f ≡ form_kept t i → (f ≡ form_at s i) × (f < row_count) × Whole s
form-here {s} x i h e =
    let q = e ∙ x.lined.row i h in
    (q, omega (arith, q, form-low s x.whole i h), x.whole)

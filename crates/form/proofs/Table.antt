-- The table's bytes are those of `Form.forms`; facts of all forms, by one test.
use mathlib.Core.Path.{◌≡◌, refl, ap, ◌∙◌}
use mathlib.Core.Bool.{Bool, true, cond, not, ◌&&◌}
use mathlib.Core.List.{List, [], ◌∷◌, ◌++◌}
use Prim.Native.Nat.{ℕ, zero, suc, ◌+◌, ◌*◌, ◌≤◌, ◌<◌}
use native.Mathlib.Omega.{arith}
use lib.Dec.{leb, ltb, eqb}
use lib.ListN.{length, get_or, length-append, get_or-append}
use lib.Seq.{get_or-append-add}
use borrow.Author.Tests.{eq-eqb, ltb-true, leb-true, eqb-false, not-true}
use Rattle.semantics.specs.Text as Text
use Rattle.semantics.specs.Form as Form
use Rattle.semantics.specs.Form.Part.{one, many}
use Rattle.semantics.proofs.Common.{both}
use Rattle.form.specs.Table.{code, codes, pad_to, encode, table, row_at, keywords_at, kind_at, codes_at}

fill-length : (n : ℕ) (xs : List ℕ) → length (pad_to n xs) ≡ n
fill-length zero xs = refl
fill-length (suc n) [] = ap suc (fill-length n [])
fill-length (suc n) (x ∷ xs) = ap suc (fill-length n xs)

fill-at : (n : ℕ) (xs : List ℕ) (i : ℕ) → i < n → get_or (pad_to n xs) i 0 ≡ get_or xs i 32
fill-at zero xs i h = absurd (omega arith)
fill-at (suc n) [] zero h = refl
fill-at (suc n) [] (suc i) h = fill-at n [] i (omega arith)
fill-at (suc n) (x ∷ xs) zero h = refl
fill-at (suc n) (x ∷ xs) (suc i) h = fill-at n xs i (omega arith)

encode-length : (r : Form.Row) → length (encode r) ≡ 24
encode-length r =
    ap suc (length-append (pad_to 17 r.words) (Form.letter r.kind ∷ pad_to 5 (codes r.parts))
    ∙ simp (fill-length))

-- a byte of the table is a byte of its row
table_at : (rs : List Form.Row) (f i : ℕ) → f < length rs → i < 24 → get_or (table rs) (24 * f + i) 0 ≡ get_or (encode (get_or rs f Form.no_row)) i 0
table_at [] f i h k = absurd (omega arith)
table_at (r ∷ rs) zero i h k =
    let e : 24 * 0 + i ≡ i = omega arith in
    rw e (get_or-append (encode r) (table rs) 0 i (omega (arith, encode-length r)))
table_at (r ∷ rs) (suc f) i h k =
    let e : 24 * suc f + i ≡ length (encode r) + (24 * f + i) = omega (arith, encode-length r) in
    ap (λ (j : ℕ). get_or (encode r ++ table rs) j 0) e ∙ get_or-append-add (encode r) (table rs) (24 * f + i) 0 ∙ table_at rs f i (omega arith) k

pub row-count : length Form.forms ≡ 42
unfolding Form.forms
row-count = refl

module _ (f : ℕ) (h : f < 42) where
  row-bytes : (i : ℕ) → i < 24 → get_or (table Form.forms) (24 * f + i) 0 ≡ get_or (encode (row_at f)) i 0
  row-bytes i k = table_at Form.forms f i (omega (arith, row-count)) k

  pub keyword-cell : (i : ℕ) → i < 17 → get_or (table Form.forms) (24 * f + 1 + i) 0 ≡ get_or (keywords_at f) i 32
  keyword-cell i k =
      let e : 24 * f + 1 + i ≡ 24 * f + suc i = omega arith in
      rw e (row-bytes (suc i) (omega arith)
      ∙ get_or-append (pad_to 17 (row_at f).words) _ 0 i (omega (arith, fill-length 17 (row_at f).words)) ∙ fill-at 17 (row_at f).words i k)

-- a byte for each row
unfoldable pub column : (Form.Row → ℕ) → List Form.Row → Text.Bytes
column g [] = []
column g (r ∷ rs) = g r ∷ column g rs

column-at : (g : Form.Row → ℕ) (rs : List Form.Row) (f : ℕ) → f < length rs → get_or (column g rs) f 0 ≡ g (get_or rs f Form.no_row)
unfolding column
column-at g [] f h = absurd (omega arith)
column-at g (r ∷ rs) zero h = refl
column-at g (r ∷ rs) (suc f) h = column-at g rs f (omega arith)

pub kind-cell : (f : ℕ) → f < 42 → get_or (column (λ (r : Form.Row). Form.letter r.kind) Form.forms) f 0 ≡ kind_at f
kind-cell f h = column-at (λ (r : Form.Row). Form.letter r.kind) Form.forms f (omega (arith, row-count))

-- five letters for each row
unfoldable pub letters : List Form.Row → Text.Bytes
letters [] = []
letters (r ∷ rs) = pad_to 5 (codes r.parts) ++ letters rs

letters-at : (rs : List Form.Row) (f j : ℕ) → f < length rs → j < 5 → get_or (letters rs) (5 * f + j) 0 ≡ get_or (codes (get_or rs f Form.no_row).parts) j 32
unfolding letters
letters-at [] f j h k = absurd (omega arith)
letters-at (r ∷ rs) zero j h k =
    let e : 5 * 0 + j ≡ j = omega arith in
    rw e (get_or-append (pad_to 5 (codes r.parts)) (letters rs) 0 j (omega (arith, fill-length 5 (codes r.parts)))) ∙ fill-at 5 (codes r.parts) j k
letters-at (r ∷ rs) (suc f) j h k =
    let e : 5 * suc f + j ≡ length (pad_to 5 (codes r.parts)) + (5 * f + j) = omega (arith, fill-length 5 (codes r.parts)) in
    ap (λ (i : ℕ). get_or (pad_to 5 (codes r.parts) ++ letters rs) i 0) e ∙ get_or-append-add (pad_to 5 (codes r.parts)) (letters rs) (5 * f + j) 0 ∙ letters-at rs f j (omega arith) k

pub letter-cell : (f : ℕ) → f < 42 → (j : ℕ) → j < 5 → get_or (letters Form.forms) (5 * f + j) 0 ≡ get_or (codes_at f) j 32
letter-cell f h j k = letters-at Form.forms f j (omega (arith, row-count)) k

-- the lengths of keywords, each a small letter
pub width-cell : (f : ℕ) → f < 42 → get_or (column (λ (r : Form.Row). length r.words + 96) Form.forms) f 0 ≡ length (keywords_at f) + 96
width-cell f h = column-at (λ (r : Form.Row). length r.words + 96) Form.forms f (omega (arith, row-count))

-- ---- what holds of all forms

-- a byte that may fill a cell of the table: 32 pads cells
cell_byte : ℕ → Bool
cell_byte b = not (eqb b 32) && ltb b 129

unfoldable pub fine : Form.Part → Bool
fine (one a) = true
fine (many a) = leb 65 (code a)

tidy : Form.Row → Bool
tidy r = Text.all cell_byte r.words && (leb (length r.words) 16 && (Text.all cell_byte (codes r.parts) && (leb (length (codes r.parts)) 4 && Text.all fine r.parts)))

all-tidy : Text.all tidy Form.forms ≡ true
unfolding Form.forms tidy cell_byte fine
all-tidy = refl

all-at : {A : Type 0} (p : A → Bool) (d : A) (xs : List A) (i : ℕ) → Text.all p xs ≡ true → i < length xs → p (get_or xs i d) ≡ true
all-at p d [] i h k = absurd (omega arith)
all-at p d (x ∷ xs) zero h k = (both (p x) (Text.all p xs) h).0
all-at p d (x ∷ xs) (suc i) h k = all-at p d xs i (both (p x) (Text.all p xs) h).1 (omega arith)

cell-byte : (b : ℕ) → cell_byte b ≡ true → (b ≡ 32 → ⊥) × (b < 129)
unfolding cell_byte
cell-byte b h =
    let w = both (not (eqb b 32)) (ltb b 129) h in
    (eqb-false b 32 (not-true (eqb b 32) w.0), ltb-true b 129 w.1)

module _ (f : ℕ) (h : f < 42) where
  row-tidy : tidy (row_at f) ≡ true
  row-tidy = all-at tidy Form.no_row Form.forms f all-tidy (omega (arith, row-count))

  t0 : (Text.all cell_byte (keywords_at f) ≡ true) × (leb (length (keywords_at f)) 16 && (Text.all cell_byte (codes_at f) && (leb (length (codes_at f)) 4 && Text.all fine (row_at f).parts)) ≡ true)
  unfolding tidy
  t0 = both _ _ row-tidy

  t1 : (leb (length (keywords_at f)) 16 ≡ true) × (Text.all cell_byte (codes_at f) && (leb (length (codes_at f)) 4 && Text.all fine (row_at f).parts) ≡ true)
  t1 = both _ _ t0.1

  t2 : (Text.all cell_byte (codes_at f) ≡ true) × (leb (length (codes_at f)) 4 && Text.all fine (row_at f).parts ≡ true)
  t2 = both _ _ t1.1

  pub keywords-plain : (i : ℕ) → i < length (keywords_at f) → (get_or (keywords_at f) i 32 ≡ 32 → ⊥)
  keywords-plain i k = (cell-byte _ (all-at cell_byte 32 (keywords_at f) i t0.0 k)).0

  pub keywords-short : length (keywords_at f) ≤ 16
  keywords-short = leb-true _ _ t1.0

  pub codes-plain : (i : ℕ) → i < length (codes_at f) → (get_or (codes_at f) i 32 ≡ 32 → ⊥) × (get_or (codes_at f) i 32 < 129)
  codes-plain i k = cell-byte _ (all-at cell_byte 32 (codes_at f) i t2.0 k)

  pub codes-short : length (codes_at f) ≤ 4
  codes-short = leb-true _ _ (both (leb (length (codes_at f)) 4) (Text.all fine (row_at f).parts) t2.1).0

  pub parts-fine : Text.all fine (row_at f).parts ≡ true
  parts-fine = (both (leb (length (codes_at f)) 4) (Text.all fine (row_at f).parts) t2.1).1

-- ---- the forms of a kind, and what holds of each form

-- whether the rows of kind k, counted from i, are among those from a up to b
spans : ℕ → ℕ → ℕ → ℕ → List Form.Row → Bool
spans k a b i [] = true
spans k a b i (r ∷ rs) = cond (eqb (Form.letter r.kind) k) (leb a i && ltb i b) true && spans k a b (suc i) rs

spans-at : (k a b : ℕ) (rs : List Form.Row) (i j : ℕ) → spans k a b i rs ≡ true → j < length rs → Form.letter (get_or rs j Form.no_row).kind ≡ k → (a ≤ i + j) × (i + j < b)
unfolding spans
spans-at k a b [] i j h l e = absurd (omega arith)
spans-at k a b (r ∷ rs) i zero h l e =
    let p : leb a i && ltb i b ≡ true = rw (eq-eqb (Form.letter r.kind) k e) at (both (cond (eqb (Form.letter r.kind) k) (leb a i && ltb i b) true) (spans k a b (suc i) rs) h).0 in
    let w = both (leb a i) (ltb i b) p in
    (omega (arith, leb-true a i w.0), omega (arith, ltb-true i b w.1))
spans-at k a b (r ∷ rs) i (suc j) h l e =
    let q = spans-at k a b rs (suc i) j (both (cond (eqb (Form.letter r.kind) k) (leb a i && ltb i b) true) (spans k a b (suc i) rs) h).1 (omega arith) e in
    (omega (arith, q.0), omega (arith, q.1))

-- the forms of kind k are among those from a up to b
pub Among : ℕ → ℕ → ℕ → Type 0
Among k a b = spans k a b 0 Form.forms ≡ true

pub forms-of-kind : {k a b : ℕ} → Among k a b → (g : ℕ) → g < 42 → kind_at g ≡ k → (a ≤ g) × (g < b)
unfolding Among
forms-of-kind {k} {a} {b} o g h e = let w = spans-at k a b Form.forms 0 g o (omega (arith, row-count)) e in (omega (arith, w.0), omega (arith, w.1))

-- form f alone has the kind k
pub Only : ℕ → ℕ → Type 0
Only k f = Among k f (suc f)

pub form-of-kind : {k f : ℕ} → Only k f → (g : ℕ) → g < 42 → kind_at g ≡ k → g ≡ f
unfolding Only
form-of-kind o g h e = let w = forms-of-kind o g h e in omega (arith, w.0, w.1)

pub among-ty : Among 75 0 8
unfolding Among spans Form.forms
among-ty = refl

pub among-ex : Among 69 8 20
unfolding Among spans Form.forms
among-ex = refl

pub among-el : Among 76 20 23
unfolding Among spans Form.forms
among-el = refl

pub only-se : Only 74 23
unfolding Only Among spans Form.forms
only-se = refl

pub only-fd : Only 70 24
unfolding Only Among spans Form.forms
only-fd = refl

pub only-pc : Only 67 25
unfolding Only Among spans Form.forms
only-pc = refl

pub only-adt : Only 65 26
unfolding Only Among spans Form.forms
only-adt = refl

pub only-pick : Only 66 27
unfolding Only Among spans Form.forms
only-pick = refl

pub only-con : Only 68 28
unfolding Only Among spans Form.forms
only-con = refl

pub only-var : Only 72 29
unfolding Only Among spans Form.forms
only-var = refl

pub only-frame : Only 71 33
unfolding Only Among spans Form.forms
only-frame = refl

infixr 5 ◌also◌
pub data Each (P : Form.Row → Type 0) : List Form.Row → Type 0 where
  done : Each P []
  ◌also◌ : {r : Form.Row} {rs : List Form.Row} → P r → Each P rs → Each P (r ∷ rs)

pub each_at : (P : Form.Row → Type 0) (rs : List Form.Row) → Each P rs → (f : ℕ) → f < length rs → P (get_or rs f Form.no_row)
each_at P [] h f l = absurd (omega arith)
each_at P (r ∷ rs) (p also h) zero l = p
each_at P (r ∷ rs) (p also h) (suc f) l = each_at P rs h f (omega arith)

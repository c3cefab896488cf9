-- Laws of keywords, letters and the walk over a line's fields.
use mathlib.Core.Path.{◌≡◌, refl, sym, ap, ◌∙◌}
use mathlib.Core.Bool.{Bool, true, false, cond, not, ◌&&◌, ◌||◌, or-true}
use mathlib.Core.List.{List, [], ◌∷◌, ◌++◌}
use Rattle.std.specs.Prelude.{Option, None, Some, ◌⊎◌}
use Rattle.std.proofs.Common.{inl, inr}
use Prim.Native.Nat.{ℕ, zero, suc, ◌+◌, ◌-◌, ◌≤◌, ◌<◌, min}
use native.Mathlib.Omega.{arith}
use native.Mathlib.Numerals.{add-one}
use lib.Dec.{leb, ltb, eqb, lit<}
use lib.ListN.{length, take, drop, get_or, replicate, drop_of_length-le, length-drop}
use lib.Seq.{drop-cons, drop-drop, drop-length, get_or-drop, take_all, take-nil}
use borrow.Author.Tests.{le-leb, lt-leb, lt-ltb, le-ltb, eq-eqb, ne_eqb, leb-true, leb-false, ltb-true, ltb-false}
use Rattle.text.specs.Parts.{until}
use Rattle.semantics.specs.Text as Text
use Rattle.semantics.specs.Form as Form
use Rattle.semantics.specs.Form.Kind.{k_ty, k_ex, k_el, k_se, k_fd, k_pc, k_adt, k_pick, k_con, k_var, k_mod, k_end, k_impl, k_frame, k_need}
use Rattle.semantics.specs.Form.Atom.{name, key, ref, maybe, unary_op, binary_op, line_or_col, size, i64, offset, real, text}
use Rattle.semantics.specs.Form.Part.{one, many}
use Rattle.decimal.specs.Number as Number
use Rattle.utf8.specs.Utf8 as Utf8
use Rattle.text.proofs.Parts.{until-take, parts-step, parts-one}
use Rattle.form.specs.Table.{code, codes, row_at, keywords_at, kind_at, codes_at, fields_behind, row_if, form_of}
use Rattle.form.specs.declared.Walk.{Walk}
use Rattle.form.specs.Letters.{is_key_field, is_real_field, limit_of, letter_holds, after, letters_fit, letters_left, WalkBounds, letters_from, fields_left, WalkAt, WalkStepped, beginning}
use Rattle.semantics.proofs.Common.{never, both}
use Rattle.form.proofs.Table.{fine, row-count, keywords-plain, codes-plain, parts-fine}

-- what stands in a list is within it
pub inside : (xs : List ℕ) (i : ℕ) → (get_or xs i 32 ≡ 32 → ⊥) → i < length xs
inside [] i n = absurd (n refl)
inside (x ∷ xs) zero n = omega arith
inside (x ∷ xs) (suc i) n = let h = inside xs i n in omega arith

-- ---- keywords

module _ (f : ℕ) (l : List ℕ) (i : ℕ) (h : f < 42) (within : i ≤ length (keywords_at f)) (same : Form.begins (keywords_at f) l ≡ Form.begins (drop i (keywords_at f)) (drop i l)) where
  ended : get_or (keywords_at f) i 32 ≡ 32 → i ≡ length (keywords_at f)
  ended e = go (ltb i (length (keywords_at f))) refl
    where
      go : (t : Bool) → ltb i (length (keywords_at f)) ≡ t → i ≡ length (keywords_at f)
      go true q = absurd (keywords-plain f h i (ltb-true _ _ q) e)
      go false q = let k = ltb-false i (length (keywords_at f)) q in omega arith

  pub begins-ended : get_or (keywords_at f) i 32 ≡ 32 → Form.begins (keywords_at f) l ≡ Form.begins [] (drop i l)
  begins-ended e = same ∙ ap (λ (w : List ℕ). Form.begins w (drop i l)) (drop_of_length-le (keywords_at f) {i = i} (omega (arith, ended e)))

  more : (get_or (keywords_at f) i 32 ≡ 32 → ⊥) → Form.begins (keywords_at f) l ≡ Form.begins (get_or (keywords_at f) i 32 ∷ drop (suc i) (keywords_at f)) (drop i l)
  more n = same ∙ ap (λ (w : List ℕ). Form.begins w (drop i l)) (drop-cons (keywords_at f) i 32 (inside (keywords_at f) i n))

  pub begins-short : (get_or (keywords_at f) i 32 ≡ 32 → ⊥) → length l ≤ i → false ≡ Form.begins (keywords_at f) l
  begins-short n k = sym (more n ∙ rw (drop_of_length-le l k))

  pub begins-differ : (get_or (keywords_at f) i 32 ≡ 32 → ⊥) → i < length l → (get_or l i 0 ≡ get_or (keywords_at f) i 32 → ⊥) → false ≡ Form.begins (keywords_at f) l
  begins-differ n k c = sym (more n ∙ rw (drop-cons l i 0 k, ne_eqb (get_or l i 0) (get_or (keywords_at f) i 32) c))

  pub begins-next : (get_or (keywords_at f) i 32 ≡ 32 → ⊥) → i < length l → get_or l i 0 ≡ get_or (keywords_at f) i 32 → Form.begins (keywords_at f) l ≡ Form.begins (drop (i + 1) (keywords_at f)) (drop (i + 1) l)
  begins-next n k c = more n ∙ rw (drop-cons l i 0 k, eq-eqb (get_or l i 0) (get_or (keywords_at f) i 32) c, add-one)

pub begins-start : (f : ℕ) (l : List ℕ) → Form.begins (keywords_at f) l ≡ Form.begins (drop 0 (keywords_at f)) (drop 0 l)
begins-start f l = refl

-- ---- the first row

module _ (l : List ℕ) (f : ℕ) (h : f < 42) (same : Form.row_of Form.forms l ≡ f + Form.row_of (drop f Form.forms) l) where
  opened : Form.row_of Form.forms l ≡ f + cond (Form.begins (keywords_at f) l) 0 (suc (Form.row_of (drop (suc f) Form.forms) l))
  opened = same ∙ ap (λ (r : List Form.Row). f + Form.row_of r l) (drop-cons Form.forms f Form.no_row (omega (arith, row-count)))

  pub row_here : Form.begins (keywords_at f) l ≡ true → Some f ≡ row_if (Form.row_of Form.forms l)
  row_here q =
      let e : f ≡ Form.row_of Form.forms l = sym (opened ∙ rw q (omega arith)) in
      rw (← e, lt-ltb f 42 h)

  pub row_next : Form.begins (keywords_at f) l ≡ false → Form.row_of Form.forms l ≡ f + 1 + Form.row_of (drop (f + 1) Form.forms) l
  row_next q = opened ∙ rw (q, add-one) (omega arith)

pub row-start : (l : List ℕ) → Form.row_of Form.forms l ≡ 0 + Form.row_of (drop 0 Form.forms) l
row-start l = omega arith

pub row-end : (l : List ℕ) (f : ℕ) → f ≡ 42 → Form.row_of Form.forms l ≡ f + Form.row_of (drop f Form.forms) l → None ≡ row_if (Form.row_of Form.forms l)
row-end l f e same =
    let k : Form.row_of Form.forms l ≡ 42 = same ∙ rw (drop_of_length-le Form.forms {i = f} (omega (arith, row-count))) (omega arith) in
    rw (le-ltb (Form.row_of Form.forms l) 42 (omega arith))

-- ---- the walk

module _ (f j c e : ℕ) where
  pub head-many : 0 < c → e ≡ get_or (letters_left f j c e) 0 32
  unfolding letters_left
  head-many h = go c h
    where
      go : (n : ℕ) → 0 < n → e ≡ get_or (replicate n e ++ drop j (codes_at f)) 0 32
      go zero k = absurd (omega arith)
      go (suc n) k = refl

  pub head-one : c ≤ 0 → get_or (codes_at f) j 32 ≡ get_or (letters_left f j c e) 0 32
  unfolding letters_left
  head-one h =
      let z : c ≡ 0 = omega arith in
      let w : j + 0 ≡ j = omega arith in
      rw z (sym (get_or-drop j (codes_at f) 0 32 ∙ ap (λ (i : ℕ). get_or (codes_at f) i 32) w))

  module _ (x n : ℕ) (ready : WalkBounds f j c e) (hx : x ≡ get_or (letters_left f j c e) 0 32) (nb : x ≡ 32 → ⊥) where
    pub step-within : 0 < c → WalkBounds f j (c - 1) e × (letters_left f j (c - 1) e ≡ after n (letters_left f j c e))
    unfolding letters_left after
    step-within h = (record { form = ready.form; within = ready.within; single = ready.single }, go c h)
      where
        go : (m : ℕ) → 0 < m → replicate (m - 1) e ++ drop j (codes_at f) ≡ after n (replicate m e ++ drop j (codes_at f))
        go zero k = absurd (omega arith)
        go (suc m) k = let q : suc m - 1 ≡ m = omega arith in rw (q, lt-leb 97 e ready.single)

    module _ (h : c ≤ 0) where
      x-is : x ≡ get_or (codes_at f) j 32
      x-is = hx ∙ sym (head-one h)

      j-in : j < length (codes_at f)
      j-in = inside (codes_at f) j (λ q. nb (x-is ∙ q))

      split : letters_left f j c e ≡ x ∷ drop (suc j) (codes_at f)
      unfolding letters_left
      split =
          let z : c ≡ 0 = omega arith in
          rw z (drop-cons (codes_at f) j 32 j-in ∙ ap (λ (y : ℕ). y ∷ drop (suc j) (codes_at f)) (sym x-is))

      pub step-many : 97 ≤ x → WalkBounds f (j + 1) n (x - 32) × (letters_left f (j + 1) n (x - 32) ≡ after n (letters_left f j c e))
      unfolding letters_left after
      step-many k = (
        record { form = ready.form; within = omega (arith, j-in); single = omega (arith, x-is, (codes-plain f ready.form j j-in).1) },
        sym (ap (after n) split ∙ rw (le-leb 97 x k, ← add-one j)),
      )

      pub step-one : x < 97 → WalkBounds f (j + 1) 0 e × (letters_left f (j + 1) 0 e ≡ after n (letters_left f j c e))
      unfolding letters_left after
      step-one k = (
        record { form = ready.form; within = omega (arith, j-in); single = ready.single },
        sym (ap (after n) split ∙ rw (lt-leb 97 x k, ← add-one j)),
      )

-- ---- fields from a place on

pub fields-end : (at : ℕ) (l : List ℕ) → length l < at → Form.fields_from at l ≡ []
fields-end at l h = rw (lt-ltb (length l) at h)

module _ (l : List ℕ) (at e : ℕ) (h : at ≤ length l) (he : e ≡ at + length (until 44 (drop at l))) where
  pub fields-step : Form.fields_from at l ≡ take (e - at) (drop at l) ∷ Form.fields_from (e + 1) l
  fields-step = rw (le-ltb (length l) at h) (go (ltb (length (until 44 (drop at l))) (length (drop at l))) refl)
    where
      size : length (drop at l) ≡ length l - at
      size = length-drop at l

      part : e - at ≡ length (until 44 (drop at l))
      part = omega arith

      go : (t : Bool) → ltb (length (until 44 (drop at l))) (length (drop at l)) ≡ t → Text.fields_of (drop at l) ≡ take (e - at) (drop at l) ∷ Form.fields_from (e + 1) l
      go true q =
          let k : length (until 44 (drop at l)) < length (drop at l) = ltb-true _ _ q in
          let m : at + suc (length (until 44 (drop at l))) ≡ e + 1 = omega arith in
          parts-step 44 (drop at l) k
          ∙ rw (part, until-take 44 (drop at l), le-ltb (length l) (e + 1) (omega (arith, size)), drop-drop (suc (length (until 44 (drop at l)))) at l, m)
      go false q =
          let k : length (drop at l) ≤ length (until 44 (drop at l)) = ltb-false _ _ q in
          parts-one 44 (drop at l) k
          ∙ rw (lt-ltb (length l) (e + 1) (omega (arith, size)), take_all (e - at) (drop at l) (omega (arith, part)))

-- ---- letters and fields

blank-bad : (s : List ℕ) → letter_holds 32 s ≡ false
unfolding letter_holds limit_of
blank-bad s = le-ltb (Number.number_up_to 65536 s) 0 (omega arith)

pub not-blank : (x : ℕ) (s : List ℕ) → letter_holds x s ≡ true → x ≡ 32 → ⊥
not-blank x s h e = let p : true ≡ false = sym h ∙ rw e (blank-bad s) in never (sym p)

holds-count : (x : ℕ) (s : List ℕ) → 97 ≤ x → letter_holds x s ≡ ltb (Number.number_up_to 65536 s) 17
unfolding letter_holds limit_of
holds-count x s h =
    simp (ne_eqb x 87 (λ q. omega arith), ne_eqb x 81 (λ q. omega arith), ne_eqb x 88 (λ q. omega arith), ne_eqb x 89 (λ q. omega arith), ne_eqb x 82 (λ q. omega arith), ne_eqb x 84 (λ q. omega arith), le-leb 97 x h)

exact : (o : Option ℕ) → Number.capped 65536 o < 17 → Number.capped 65536 o ≡ Text.or_else 0 o
exact None h = absurd (omega arith)
exact (Some n) h = omega arith

-- the number that the code hands over is the field's own where it counts
after-number : (x n : ℕ) (xs s : List ℕ) → x ≡ get_or xs 0 32 → letter_holds x s ≡ true → n ≡ Number.number_up_to 65536 s → after n xs ≡ after (Form.number_of s) xs
unfolding after Number.number_up_to
after-number x n [] s e h p = refl
after-number x n (y ∷ ys) s e h p = go (leb 97 y) refl
  where
    go : (t : Bool) → leb 97 y ≡ t → cond (leb 97 y) (replicate n (y - 32) ++ ys) ys ≡ cond (leb 97 y) (replicate (Form.number_of s) (y - 32) ++ ys) ys
    go true q =
        let k : 97 ≤ x = omega (arith, leb-true 97 y q, e) in
        let b : Number.capped 65536 (Text.nat_of s) < 17 = ltb-true _ _ (sym (holds-count x s k) ∙ h) in
        rw (p ∙ exact (Text.nat_of s) b)
    go false q = rw q

module _ (l : List ℕ) (at e : ℕ) (h : at ≤ length l) (he : e ≡ at + length (until 44 (drop at l))) (x : ℕ) (xs : List ℕ) (hx : x ≡ get_or xs 0 32) where
  turn : letters_fit xs (Form.fields_from at l) ≡ letter_holds x (take (e - at) (drop at l)) && letters_fit (after (Form.number_of (take (e - at) (drop at l))) xs) (Form.fields_from (e + 1) l)
  unfolding letters_fit
  turn = rw (fields-step l at e h he, ← hx)

  pub fits-bad : letter_holds x (take (e - at) (drop at l)) ≡ false → letters_fit xs (Form.fields_from at l) ≡ false
  fits-bad b = turn ∙ rw b

  pub fits-turn : (n : ℕ) (ys : List ℕ) → letter_holds x (take (e - at) (drop at l)) ≡ true → n ≡ Number.number_up_to 65536 (take (e - at) (drop at l)) → ys ≡ after n xs → letters_fit xs (Form.fields_from at l) ≡ letters_fit ys (Form.fields_from (e + 1) l)
  fits-turn n ys b p q = turn ∙ rw (b, ← after-number x n xs (take (e - at) (drop at l)) hx b p, ← q)

pub fits-end : (at : ℕ) (l xs : List ℕ) → length l < at → letters_fit xs (Form.fields_from at l) ≡ eqb (get_or xs 0 32) 32
unfolding letters_fit
fits-end at l xs h = rw (fields-end at l h)

ready-start : (f : ℕ) → f < 42 → WalkBounds f 0 0 32
ready-start f h = record { form = h; within = omega arith; single = omega arith }

pub fits-start : (f : ℕ) (l : List ℕ) → f < 42 → (w : Walk) → w ≡ beginning f → WalkBounds f w.next w.left w.letter × (letters_fit (codes_at f) (fields_behind f l) ≡ letters_fit (letters_from f w) (fields_left l w))
unfolding letters_left
fits-start f l h w e = rw e (ready-start f h, refl)

-- ---- letters say what the table's parts say

up_to : (m : ℕ) (o : Option ℕ) → m < 65536 → ltb (Number.capped 65536 o) (suc m) ≡ Text.holds_of (λ (n : ℕ). leb n m) o
up_to m None h = le-ltb 65537 (suc m) (omega arith)
up_to m (Some n) h = go (leb n m) refl
  where
    go : (t : Bool) → leb n m ≡ t → ltb (min n 65536) (suc m) ≡ leb n m
    go true q = let k = leb-true n m q in lt-ltb (min n 65536) (suc m) (omega arith) ∙ sym q
    go false q = let k = leb-false n m q in le-ltb (min n 65536) (suc m) (omega arith) ∙ sym q

is-number : (o : Option ℕ) → ltb (Number.capped 65536 o) 65537 ≡ Text.holds_of (λ (n : ℕ). true) o
is-number None = refl
is-number (Some n) = lt-ltb (min n 65536) 65537 (omega arith)

-- letters of kinds are A to O
pub kind-letter : (k : Form.Kind) → (64 < Form.letter k) × (Form.letter k < 80)
kind-letter k_ty = (lit< tt, lit< tt)
kind-letter k_ex = (lit< tt, lit< tt)
kind-letter k_el = (lit< tt, lit< tt)
kind-letter k_se = (lit< tt, lit< tt)
kind-letter k_fd = (lit< tt, lit< tt)
kind-letter k_pc = (lit< tt, lit< tt)
kind-letter k_adt = (lit< tt, lit< tt)
kind-letter k_pick = (lit< tt, lit< tt)
kind-letter k_con = (lit< tt, lit< tt)
kind-letter k_var = (lit< tt, lit< tt)
kind-letter k_mod = (lit< tt, lit< tt)
kind-letter k_end = (lit< tt, lit< tt)
kind-letter k_impl = (lit< tt, lit< tt)
kind-letter k_frame = (lit< tt, lit< tt)
kind-letter k_need = (lit< tt, lit< tt)

-- a reference may be any number
pub ref-holds : (x : ℕ) (f : List ℕ) → 32 < x → x < 80 → letter_holds x f ≡ ltb (Number.number_up_to 65536 f) 65537
unfolding letter_holds limit_of
ref-holds x f low high =
    simp (
      ne_eqb x 87 (λ q. omega arith),
      ne_eqb x 81 (λ q. omega arith),
      ne_eqb x 88 (λ q. omega arith),
      ne_eqb x 89 (λ q. omega arith),
      ne_eqb x 82 (λ q. omega arith),
      ne_eqb x 84 (λ q. omega arith),
      lt-leb 97 x (omega arith),
      ne_eqb x 85 (λ q. omega arith),
      ne_eqb x 86 (λ q. omega arith),
      ne_eqb x 80 (λ q. omega arith),
      ne_eqb x 83 (λ q. omega arith),
      ne_eqb x 32 (λ q. omega arith),
    )

number-holds : (x : ℕ) (f : List ℕ) → 32 < x → x < 80 → letter_holds x f ≡ Form.is_number f
unfolding Number.number_up_to
number-holds x f low high = ref-holds x f low high ∙ is-number (Text.nat_of f)

code_holds : (a : Form.Atom) (f : List ℕ) → letter_holds (code a) f ≡ Form.holds a f
unfolding letter_holds limit_of Number.number_up_to Number.is_between is_key_field is_real_field Utf8.is_text
code_holds name f = refl
code_holds key f = refl
code_holds (ref k) f = number-holds (Form.letter k) f (omega (arith, kind-letter k)) (kind-letter k).1
code_holds (maybe k) f = number-holds (Form.letter k - 32) f (omega (arith, kind-letter k)) (omega (arith, kind-letter k))
code_holds unary_op f = up_to 3 (Text.nat_of f) (omega arith)
code_holds binary_op f = up_to 18 (Text.nat_of f) (omega arith)
code_holds line_or_col f = up_to 65535 (Text.nat_of f) (omega arith)
code_holds size f = up_to 4096 (Text.nat_of f) (omega arith)
code_holds i64 f = refl
code_holds offset f = refl
code_holds real f = refl
code_holds text f = refl

-- letters of fields are above the blank, and below the small letters
code-range : (a : Form.Atom) → (32 < code a) × (code a < 97)
code-range name = (lit< tt, lit< tt)
code-range key = (lit< tt, lit< tt)
code-range (ref k) = (omega (arith, kind-letter k), omega (arith, kind-letter k))
code-range (maybe k) = (omega (arith, kind-letter k), omega (arith, kind-letter k))
code-range unary_op = (lit< tt, lit< tt)
code-range binary_op = (lit< tt, lit< tt)
code-range line_or_col = (lit< tt, lit< tt)
code-range size = (lit< tt, lit< tt)
code-range i64 = (lit< tt, lit< tt)
code-range offset = (lit< tt, lit< tt)
code-range real = (lit< tt, lit< tt)
code-range text = (lit< tt, lit< tt)

many-holds : (a : Form.Atom) (f : List ℕ) → leb 65 (code a) ≡ true → letter_holds (code a + 32) f ≡ Form.is_count f
unfolding Number.number_up_to
many-holds a f h = holds-count (code a + 32) f (omega (arith, leb-true 65 (code a) h)) ∙ up_to 16 (Text.nat_of f) (omega arith)

ones-codes : (n : ℕ) (a : Form.Atom) (ps : List Form.Part) → codes (Form.ones n a ++ ps) ≡ replicate n (code a) ++ codes ps
ones-codes zero a ps = refl
ones-codes (suc n) a ps = ap (λ (l : List ℕ). code a ∷ l) (ones-codes n a ps)

pub ones-fine : (n : ℕ) (a : Form.Atom) (ps : List Form.Part) → Text.all fine ps ≡ true → Text.all fine (Form.ones n a ++ ps) ≡ true
unfolding fine
ones-fine zero a ps h = h
ones-fine (suc n) a ps h = ones-fine n a ps h

-- the letters after a field are those of the parts after it
pub one-after : (n : ℕ) (a : Form.Atom) (xs : List ℕ) → after n (code a ∷ xs) ≡ xs
unfolding after
one-after n a xs = rw (lt-leb 97 (code a) (code-range a).1)

pub many-after : (n : ℕ) (a : Form.Atom) (ps : List Form.Part) → leb 65 (code a) ≡ true → after n ((code a + 32) ∷ codes ps) ≡ codes (Form.ones n a ++ ps)
unfolding after
many-after n a ps h =
    let e : code a + 32 - 32 ≡ code a = omega arith in
    rw (le-leb 97 (code a + 32) (omega (arith, leb-true 65 (code a) h)), e) (sym (ones-codes n a ps))

fits-codes : (fs : List (List ℕ)) (ps : List Form.Part) → Text.all fine ps ≡ true → letters_fit (codes ps) fs ≡ Form.fits ps fs
unfolding letters_fit fine
fits-codes [] [] h = refl
fits-codes [] (one a ∷ ps) h = ne_eqb (code a) 32 (λ q. omega (arith, code-range a))
fits-codes [] (many a ∷ ps) h = ne_eqb (code a + 32) 32 (λ q. omega (arith, leb-true 65 (code a) (both (leb 65 (code a)) (Text.all fine ps) h).0))
fits-codes (f ∷ fs) [] h = rw (blank-bad f)
fits-codes (f ∷ fs) (one a ∷ ps) h = rw (code_holds a f, one-after (Form.number_of f) a (codes ps), fits-codes fs ps h)
fits-codes (f ∷ fs) (many a ∷ ps) h =
    let w = both (leb 65 (code a)) (Text.all fine ps) h in
    rw (many-holds a f w.0, many-after (Form.number_of f) a ps w.0, fits-codes fs (Form.ones (Form.number_of f) a ++ ps) (ones-fine (Form.number_of f) a ps w.1))

-- ---- the form of a line

pub begins-chosen : (rs : List Form.Row) (l : List ℕ) → Form.row_of rs l < length rs → Form.begins (get_or rs (Form.row_of rs l) Form.no_row).words l ≡ true
begins-chosen [] l h = absurd (omega arith)
begins-chosen (r ∷ rs) l h = go (Form.begins r.words l) refl (λ k. begins-chosen rs l k)
  where
    go : (t : Bool) → Form.begins r.words l ≡ t → (Form.row_of rs l < length rs → Form.begins (get_or rs (Form.row_of rs l) Form.no_row).words l ≡ true)
        → Form.begins (get_or (r ∷ rs) (Form.row_of (r ∷ rs) l) Form.no_row).words l ≡ true
    go true q ih = rw q q
    go false q ih = rw q (ih (let k : suc (Form.row_of rs l) < suc (length rs) = rw q at h in omega arith))

module _ (k : ℕ) (l : List ℕ) where
  form-open : form_of k l ≡ cond (leb (length l) 255 && ltb (Form.row_of Form.forms l) 42 && Form.fits (row_at (Form.row_of Form.forms l)).parts (Form.fields_from (length (keywords_at (Form.row_of Form.forms l)) + 1) l) && (eqb k 1 || not (eqb (kind_at (Form.row_of Form.forms l)) 73))) (Some (Form.row_of Form.forms l)) None
  unfolding Form.formed Form.read_of
  form-open = rw row-count

  pub form-long : 255 < length l → None ≡ form_of k l
  form-long h = sym (form-open ∙ rw (lt-leb (length l) 255 h))

  pub form-none : length l ≤ 255 → None ≡ row_if (Form.row_of Form.forms l) → None ≡ form_of k l
  form-none short e = sym (form-open ∙ rw (le-leb (length l) 255 short, go (ltb (Form.row_of Form.forms l) 42) e))
    where
      go : (t : Bool) → None ≡ cond t (Some (Form.row_of Form.forms l)) None → t ≡ false
      go true e = never cc
      go false e = refl

  module _ (f : ℕ) (short : length l ≤ 255) (hf : Some f ≡ row_if (Form.row_of Form.forms l)) where
    row-is : (f ≡ Form.row_of Form.forms l) × (f < 42)
    row-is = go (ltb (Form.row_of Form.forms l) 42) refl hf
      where
        go : (t : Bool) → ltb (Form.row_of Form.forms l) 42 ≡ t → Some f ≡ cond t (Some (Form.row_of Form.forms l)) None → (f ≡ Form.row_of Form.forms l) × (f < 42)
        go true q e = let k : f ≡ Form.row_of Form.forms l = cc in (k, omega (arith, ltb-true _ _ q))
        go false q e = never cc

    form-fields : form_of k l ≡ cond (letters_fit (codes_at f) (fields_behind f l) && (eqb k 1 || not (eqb (kind_at f) 73))) (Some f) None
    form-fields = form-open ∙ rw (le-leb (length l) 255 short, ← row-is.0, lt-ltb f 42 row-is.1, fits-codes (fields_behind f l) (row_at f).parts (parts-fine f row-is.1))

    pub form-unfit : letters_fit (codes_at f) (fields_behind f l) ≡ false → None ≡ form_of k l
    form-unfit e = sym (form-fields ∙ rw e)

    module _ (fit : letters_fit (codes_at f) (fields_behind f l) ≡ true) where
      pub form-good : (kind_at f ≡ 73) × (k ≡ 1) ⊎ (kind_at f ≡ 73 → ⊥) → Some f ≡ form_of k l
      form-good (inl e) = sym (form-fields ∙ rw (fit, eq-eqb k 1 e.1))
      form-good (inr n) = sym (form-fields ∙ simp (fit, ne_eqb (kind_at f) 73 n, or-true))

      pub form-late : kind_at f ≡ 73 → (k ≡ 1 → ⊥) → None ≡ form_of k l
      form-late e n = sym (form-fields ∙ rw (fit, ne_eqb k 1 n, eq-eqb (kind_at f) 73 e))

-- ---- readers

module _ (l : List ℕ) (at e i k : ℕ) (h : at ≤ length l) (he : e ≡ at + length (until 44 (drop at l))) where
  pub field-here : k ≡ i → take (e - at) (drop at l) ≡ get_or (Form.fields_from at l) (i - k) []
  field-here q = let z : i - k ≡ 0 = omega arith in rw (z, fields-step l at e h he)

  pub field_next : k ≤ i → (k ≡ i → ⊥) → get_or (Form.fields_from at l) (i - k) [] ≡ get_or (Form.fields_from (e + 1) l) (i - (k + 1)) []
  field_next m n = let z : i - k ≡ suc (i - (k + 1)) = omega arith in rw (z, fields-step l at e h he)

pub field-none : (l : List ℕ) (at i : ℕ) → length l < at → take (length l - length l) (drop (length l) l) ≡ get_or (Form.fields_from at l) i []
field-none l at i h = rw (drop-length, fields-end at l h) (take-nil (length l - length l))

pub field-start : (l : List ℕ) (f i w : ℕ) → w ≡ length (keywords_at f) → get_or (Form.fields_from (length (keywords_at f) + 1) l) i [] ≡ get_or (Form.fields_from (w + 1) l) (i - 0) []
field-start l f i w e = let z : i - 0 ≡ i = omega arith in rw (e, z)

-- ---- the walk over a line that fits

module _ (f : ℕ) (l : List ℕ) (w : Walk) (st : WalkAt f l w) (e : ℕ) (within : w.at ≤ length l) (he : e ≡ w.at + length (until 44 (drop w.at l))) (x : ℕ) (hx : x ≡ get_or (letters_from f w) 0 32) where
  pub here : List ℕ
  here = take (e - w.at) (drop w.at l)

  open-field : fields_left l w ≡ here ∷ Form.fields_from (e + 1) l
  unfolding here
  open-field = fields-step l w.at e within he

  -- this field is good, and those behind it fit
  good-rest : (letter_holds x here ≡ true) × (letters_fit (after (Form.number_of here) (letters_from f w)) (Form.fields_from (e + 1) l) ≡ true)
  unfolding letters_fit here
  good-rest = both (letter_holds x here) _ (rw (open-field, ← hx) at st.fit)

  pub not-ended : x ≡ 32 → ⊥
  not-ended = not-blank x here good-rest.0

  pub walk-stepped : (v : ℕ) (u : Walk) → v ≡ Number.number_up_to 65536 (take (e - w.at) (drop w.at l)) → WalkBounds f u.next u.left u.letter → letters_from f u ≡ after v (letters_from f w) → u.at ≡ e + 1 → WalkStepped f l w x v u
  unfolding here
  walk-stepped v u hv r q p =
      let k : letters_from f u ≡ after (Form.number_of here) (letters_from f w) = q ∙ after-number x v (letters_from f w) here hx good-rest.0 hv in
      let o : fields_left l u ≡ Form.fields_from (e + 1) l = ap (λ (j : ℕ). Form.fields_from j l) p in
      record {
        field = here;
        letter = hx;
        fields = open-field ∙ rw p;
        good = good-rest.0;
        number = hv;
        letters = k;
        standing = record { ready = r; fit = ap (λ (j : List (List ℕ)). letters_fit (letters_from f u) j) o ∙ rw k good-rest.1 };
        further = omega arith;
      }

-- it begins at the fields behind the keywords
pub walk_begins : (f : ℕ) (l : List ℕ) → f < 42 → Form.fits (row_at f).parts (fields_behind f l) ≡ true → WalkAt f l (beginning f)
unfolding letters_left
walk_begins f l h fit = record { ready = ready-start f h; fit = fits-codes (fields_behind f l) (row_at f).parts (parts-fine f h) ∙ fit }

-- Laws of lines and of the tables.
use mathlib.Core.Path.{◌≡◌, refl, sym, ap, ◌∙◌, subst}
use mathlib.Core.Bool.{Bool, true, false, cond, ◌&&◌}
use mathlib.Core.List.{List, [], ◌∷◌}
use Rattle.std.specs.Prelude.{Option, None, Some}
use Prim.Native.Nat.{ℕ, zero, suc, ◌+◌, ◌-◌, ◌/◌, ◌%◌, ◌≤◌, ◌<◌}
use native.Mathlib.Omega.{arith}
use native.Mathlib.Numerals.{add-one}
use native.Mathlib.Nat.{eq-or-lt_of_le}
use mathlib.Core.Logic.{◌⊎◌, ⊎_elim}
use lib.Dec.{leb, ltb, eqb}
use lib.ListN.{length, take, drop, get_or, set, length-drop, length-set}
use lib.Seq.{drop-drop, take_all, get_or-set_same, get_or-set_other}
use borrow.Author.Tests.{le-leb, lt-leb, eq-eqb, ne_eqb, ltb-true, ltb-false}
use Rattle.text.specs.Parts.{until}
use Rattle.semantics.specs.Text as Text
use Rattle.semantics.specs.Form as Form
use Rattle.semantics.specs.Refusal as Refusal
use Rattle.semantics.proofs.Common.{never}
use Rattle.text.proofs.Parts.{until-take, parts-step, parts-one}
use Rattle.form.specs.Table.{form_of}
use Rattle.lines.proofs.Line.{indexed}
use Rattle.lines.specs.Lines.{text_at, start, form_kept, line_entered, Lined, Indexed}

-- ---- the tables

module _ (t : List ℕ) (i a f : ℕ) (hi : i < 1024) (ha : a < 65536) (room : 3072 ≤ length t) where
  other : (j : ℕ) → (j ≡ i → ⊥) → (j ≡ 1024 + i → ⊥) → (j ≡ 2048 + i → ⊥) → get_or (line_entered t i a f) j 0 ≡ get_or t j 0
  unfolding line_entered
  other j p q r =
      get_or-set_other (set (set t i (a % 256)) (1024 + i) (a / 256)) (2048 + i) j f 0 r
      ∙ get_or-set_other (set t i (a % 256)) (1024 + i) j (a / 256) 0 q ∙ get_or-set_other t i j (a % 256) 0 p

  low : get_or (line_entered t i a f) i 0 ≡ a % 256
  unfolding line_entered
  low =
      get_or-set_other (set (set t i (a % 256)) (1024 + i) (a / 256)) (2048 + i) i f 0 (omega arith)
      ∙ get_or-set_other (set t i (a % 256)) (1024 + i) i (a / 256) 0 (omega arith) ∙ get_or-set_same t i (a % 256) 0 (omega arith)

  high : get_or (line_entered t i a f) (1024 + i) 0 ≡ a / 256
  unfolding line_entered
  high =
      get_or-set_other (set (set t i (a % 256)) (1024 + i) (a / 256)) (2048 + i) (1024 + i) f 0 (omega arith)
      ∙ get_or-set_same (set t i (a % 256)) (1024 + i) (a / 256) 0 (omega (arith, length-set t i (a % 256)))

  start-same : start (line_entered t i a f) i ≡ a
  unfolding start
  start-same = rw (low, high) (omega arith)

  start-other : (j : ℕ) → j < i → start (line_entered t i a f) j ≡ start t j
  unfolding start
  start-other j h = rw (other j (omega arith) (omega arith) (omega arith), other (1024 + j) (omega arith) (omega arith) (omega arith))

  form-same : form_kept (line_entered t i a f) i ≡ f
  unfolding form_kept line_entered
  form-same =
      get_or-set_same (set (set t i (a % 256)) (1024 + i) (a / 256)) (2048 + i) f 0
      (omega (arith, length-set (set t i (a % 256)) (1024 + i) (a / 256), length-set t i (a % 256)))

  form-other : (j : ℕ) → j < i → form_kept (line_entered t i a f) j ≡ form_kept t j
  unfolding form_kept
  form-other j h = other (2048 + j) (omega arith) (omega arith) (omega arith)

-- ---- parts between LFs

drop-tail : {A : Type 0} (n : ℕ) (xs ys : List A) (y : A) → drop n xs ≡ y ∷ ys → drop (n + 1) xs ≡ ys
drop-tail zero xs ys y e = ap (drop 1) e
drop-tail (suc n) [] ys y e = never cc
drop-tail (suc n) (x ∷ xs) ys y e = let q : suc n + 1 ≡ suc (n + 1) = omega arith in rw q (drop-tail n xs ys y e)

get-head : {A : Type 0} (d : A) (n : ℕ) (xs ys : List A) (y : A) → drop n xs ≡ y ∷ ys → get_or xs n d ≡ y
get-head d zero xs ys y e = ap (λ l. get_or l 0 d) e
get-head d (suc n) [] ys y e = never cc
get-head d (suc n) (x ∷ xs) ys y e = get-head d n xs ys y e

drop-length-is : {A : Type 0} (n : ℕ) (xs ys : List A) (y : A) → drop n xs ≡ y ∷ ys → length xs ≡ n + suc (length ys)
drop-length-is zero xs ys y e = ap length e ∙ omega arith
drop-length-is (suc n) [] ys y e = never cc
drop-length-is (suc n) (x ∷ xs) ys y e = let q = drop-length-is n xs ys y e in omega arith

parts-cons : (s : List ℕ) → Text.line_parts s ≡ until 10 s ∷ drop 1 (Text.line_parts s)
parts-cons s = go (ltb (length (until 10 s)) (length s)) refl
  where
    go : (t : Bool) → ltb (length (until 10 s)) (length s) ≡ t → Text.line_parts s ≡ until 10 s ∷ drop 1 (Text.line_parts s)
    go true q = rw (parts-step 10 s (ltb-true _ _ q))
    go false q =
        let k : length s ≤ length (until 10 s) = ltb-false _ _ q in
        let u : until 10 s ≡ s = sym (until-take 10 s) ∙ take_all (length (until 10 s)) s k in
        rw (parts-one 10 s k, u)

parts-some : (s : List ℕ) → 0 < length (Text.line_parts s)
parts-some s = rw (parts-cons s) (omega arith)

bad-cons : (k : ℕ) (l : List ℕ) (ps : List (List ℕ)) → 0 < length ps → Refusal.bad_form k (l ∷ ps) ≡ cond (leb k 1024 && Form.formed k l) (Refusal.bad_form (suc k) ps) k
unfolding Refusal.bad_form
bad-cons k l [] h = absurd (omega arith)
bad-cons k l (m ∷ ms) h = refl

-- a line by the tables
pub line-text : (s t : List ℕ) (n i a e : ℕ) → Lined s t n → i < n → a ≡ start t i → e ≡ a + length (until 10 (drop a s)) → take (e - a) (drop a s) ≡ text_at s i
line-text s t n i a e l h ha he =
    let q : e - a ≡ length (until 10 (drop a s)) = omega arith in
    rw q (until-take 10 (drop a s) ∙ sym (get-head [] i (Text.line_parts s) (drop 1 (Text.line_parts (drop a s))) (until 10 (drop a s)) (sym (l.at i h) ∙ ap (λ (j : ℕ). Text.line_parts (drop j s)) (sym ha) ∙ parts-cons (drop a s))))

-- the bytes that parts take, with an LF between any two
abbrev joined_length : List (List ℕ) → ℕ
joined_length [] = 0
joined_length (p ∷ []) = length p
joined_length (p ∷ (q ∷ ps)) = length p + suc (joined_length (q ∷ ps))

joined-cons : (p : List ℕ) (ps : List (List ℕ)) → 0 < length ps → joined_length (p ∷ ps) ≡ length p + suc (joined_length ps)
joined-cons p [] h = absurd (omega arith)
joined-cons p (q ∷ ps) h = refl

joined-first : (b : ℕ) (p : List ℕ) (ps : List (List ℕ)) → joined_length ((b ∷ p) ∷ ps) ≡ suc (joined_length (p ∷ ps))
joined-first b p [] = refl
joined-first b p (q ∷ ps) = omega arith

parts-joined : (s : List ℕ) → joined_length (Text.line_parts s) ≡ length s
parts-joined [] = refl
parts-joined (b ∷ s) = go (eqb b 10) (Text.line_parts s) (parts-some s) (parts-joined s)
  where
    go : (t : Bool) (ps : List (List ℕ)) → 0 < length ps → joined_length ps ≡ length s → joined_length (Text.cut t b ps) ≡ suc (length s)
    go true ps h e = joined-cons [] ps h ∙ omega arith
    go false [] h e = absurd (omega arith)
    go false (p ∷ ps) h e = joined-first b p ps ∙ ap suc e

-- the next line starts behind a line's LF
next_start : (s t : List ℕ) (n i : ℕ) → Lined s t n → i + 1 < n → start t (i + 1) ≡ start t i + length (until 10 (drop (start t i) s)) + 1
next_start s t n i l h =
    let a = start t i in
    let b = start t (i + 1) in
    let q : i < n = omega arith in
    let tail : Text.line_parts (drop b s) ≡ drop 1 (Text.line_parts (drop a s)) =
    l.at (i + 1) h ∙ drop-tail i (Text.line_parts s) (drop 1 (Text.line_parts (drop a s))) (until 10 (drop a s)) (sym (l.at i q) ∙ parts-cons (drop a s)) in
    let here : length (drop a s) ≡ length (until 10 (drop a s)) + suc (length (drop b s)) =
    sym (parts-joined (drop a s)) ∙ ap joined_length (parts-cons (drop a s) ∙ ap (λ (ps : List (List ℕ)). until 10 (drop a s) ∷ ps) (sym tail))
    ∙ joined-cons (until 10 (drop a s)) (Text.line_parts (drop b s)) (parts-some (drop b s)) ∙ ap (λ (m : ℕ). length (until 10 (drop a s)) + suc m) (parts-joined (drop b s)) in
    omega (arith, length-drop a s, length-drop b s, l.within i q, l.within (i + 1) h)

pub next-line : (s t : List ℕ) (n i : ℕ) {a b : ℕ} → Lined s t n → i + 1 < n → a ≡ start t i → b ≡ start t (i + 1) → (b - 1 ≡ a + length (until 10 (drop a s))) × (0 < b) × (b ≤ length s) × (a ≤ b - 1)
next-line s t n i {a} {b} l h ha hb =
    let e : b ≡ a + length (until 10 (drop a s)) + 1 = hb ∙ next_start s t n i l h ∙ ap (λ (x : ℕ). x + length (until 10 (drop x s)) + 1) (sym ha) in
    (omega arith, omega arith, omega (arith, hb, l.within (i + 1) h), omega arith)

-- ---- a turn of the pass

module _ (s : List ℕ) (at n e : ℕ) (low : at ≤ length s) (here : Text.line_parts (drop at s) ≡ drop n (Text.line_parts s)) (he : e ≡ at + length (until 10 (drop at s))) where
  module _ (last : e ≡ length s) where
    rest-one : drop n (Text.line_parts s) ≡ drop at s ∷ []
    rest-one = sym here ∙ parts-one 10 (drop at s) (omega (arith, length-drop at s))

    ends-bad : (at ≡ e → ⊥) → Refusal.bad_form 1 (Text.line_parts s) ≡ Refusal.bad_form (n + 1) (drop n (Text.line_parts s)) → Refusal.bad_form 1 (Text.line_parts s) ≡ n + 1
    unfolding Refusal.bad_form
    ends-bad k same = same ∙ rw rest-one (simp (ne_eqb (length (drop at s)) 0 (λ z. k (omega (arith, length-drop at s)))))

    ends-good : at ≡ e → Refusal.bad_form 1 (Text.line_parts s) ≡ Refusal.bad_form (n + 1) (drop n (Text.line_parts s)) → Refusal.bad_form 1 (Text.line_parts s) ≡ 0
    unfolding Refusal.bad_form
    ends-good k same = same ∙ rw rest-one (simp (eq-eqb (length (drop at s)) 0 (omega (arith, length-drop at s))))

    ends-count : length (Text.line_parts s) ≡ n + 1
    ends-count = drop-length-is n (Text.line_parts s) [] (drop at s) rest-one

  module _ (more : e < length s) where
    rest-two : drop n (Text.line_parts s) ≡ take (e - at) (drop at s) ∷ Text.line_parts (drop (e + 1) s)
    rest-two =
        let k : length (until 10 (drop at s)) < length (drop at s) = omega (arith, length-drop at s) in
        let m : at + suc (length (until 10 (drop at s))) ≡ e + 1 = omega arith in
        let q : e - at ≡ length (until 10 (drop at s)) = omega arith in
        sym here ∙ parts-step 10 (drop at s) k ∙ rw (q, until-take 10 (drop at s), drop-drop (suc (length (until 10 (drop at s)))) at s, m)

    text-is : take (e - at) (drop at s) ≡ text_at s n
    text-is = sym (get-head [] n (Text.line_parts s) _ _ rest-two)

    next-parts : Text.line_parts (drop (e + 1) s) ≡ drop (n + 1) (Text.line_parts s)
    next-parts = sym (drop-tail n (Text.line_parts s) _ _ rest-two)

    bad-open : Refusal.bad_form (n + 1) (drop n (Text.line_parts s)) ≡ cond (leb (n + 1) 1024 && Form.formed (n + 1) (text_at s n)) (Refusal.bad_form (n + 1 + 1) (drop (n + 1) (Text.line_parts s))) (n + 1)
    bad-open =
        ap (Refusal.bad_form (n + 1)) rest-two ∙ bad-cons (n + 1) (take (e - at) (drop at s)) (Text.line_parts (drop (e + 1) s)) (parts-some (drop (e + 1) s))
        ∙ rw (text-is, next-parts, ← add-one (n + 1))

    module _ (same : Refusal.bad_form 1 (Text.line_parts s) ≡ Refusal.bad_form (n + 1) (drop n (Text.line_parts s))) where
      full-bad : n ≡ 1024 → Refusal.bad_form 1 (Text.line_parts s) ≡ n + 1
      full-bad k = same ∙ bad-open ∙ rw (lt-leb (n + 1) 1024 (omega arith))

      form-bad : n < 1024 → Form.formed (n + 1) (text_at s n) ≡ false → Refusal.bad_form 1 (Text.line_parts s) ≡ n + 1
      form-bad k b = same ∙ bad-open ∙ rw (le-leb (n + 1) 1024 (omega arith), b)

      form-good : n < 1024 → Form.formed (n + 1) (text_at s n) ≡ true → Refusal.bad_form 1 (Text.line_parts s) ≡ Refusal.bad_form (n + 1 + 1) (drop (n + 1) (Text.line_parts s))
      form-good k b = same ∙ bad-open ∙ rw (le-leb (n + 1) 1024 (omega arith), b)

-- what the form's number says
has-form : (k f : ℕ) (l : List ℕ) → Some f ≡ form_of k l → (Form.formed k l ≡ true) × (f ≡ Form.row_of Form.forms l)
has-form k f l e = go (Form.formed k l) e
  where
    go : (t : Bool) → Some f ≡ cond t (Some (Form.row_of Form.forms l)) None → (t ≡ true) × (f ≡ Form.row_of Form.forms l)
    go true e = (refl, cc)
    go false e = never cc

has-no-form : (k : ℕ) (l : List ℕ) → None ≡ form_of k l → Form.formed k l ≡ false
has-no-form k l e = go (Form.formed k l) e
  where
    go : (t : Bool) → None ≡ cond t (Some (Form.row_of Form.forms l)) None → t ≡ false
    go true e = never cc
    go false e = refl

-- one line more in the tables
lined-none : (s t : List ℕ) → Lined s t 0
lined-none s t = record {
  few = omega arith;
  at = λ i h. absurd (omega arith);
  within = λ i h. absurd (omega arith);
  row = λ i h. absurd (omega arith);
  good = λ i h. absurd (omega arith);
}

module _ (s t u : List ℕ) (n a f : ℕ) (l : Lined s t n) (room : 3072 ≤ length t) (hu : u ≡ line_entered t n a f) (full : n < 1024) (small : a < 65536)
    (here : Text.line_parts (drop a s) ≡ drop n (Text.line_parts s)) (within : a ≤ length s) (hf : f ≡ Form.row_of Form.forms (text_at s n)) (good : Form.formed (n + 1) (text_at s n) ≡ true) where
  cases : (i m : ℕ) → i ≤ m → (i ≡ m) ⊎ (i < m)
  cases i m h = eq-or-lt_of_le h

  -- what holds of the lines before and of this one
  each : (P : ℕ → Type 0) → ((i : ℕ) → i < n → P i) → P n → (i : ℕ) → i < n + 1 → P i
  each P h k i m = ⊎_elim (λ (e : i ≡ n). subst P (sym e) k) (λ (q : i < n). h i q) (cases i n (omega arith))

  new : start u n ≡ a
  new = rw hu (start-same t n a f full small room)

  old : (i : ℕ) → i < n → start u i ≡ start t i
  old i h = rw hu (start-other t n a f full small room i h)

  lined-more : Lined s u (n + 1)
  lined-more = record {
    few = omega arith;
    at = each (λ i. Text.line_parts (drop (start u i) s) ≡ drop i (Text.line_parts s)) (λ i h. rw (old i h) (l.at i h)) (rw new here);
    within = each (λ i. start u i ≤ length s) (λ i h. rw (old i h) (l.within i h)) (rw new within);
    row = each (λ i. form_kept u i ≡ Form.row_of Form.forms (text_at s i)) (λ i h. rw hu (form-other t n a f full small room i h ∙ l.row i h)) (rw hu (form-same t n a f full small room ∙ hf));
    good = each (λ i. Form.formed (i + 1) (text_at s i) ≡ true) (λ i h. l.good i h) good;
  }

-- ---- the pass, as its code has it

pub record Going (s t : List ℕ) (at n : ℕ) : Type 0 where
  pub lined : Lined s t n
  pub low : at ≤ length s
  pub here : Text.line_parts (drop at s) ≡ drop n (Text.line_parts s)
  pub same : Refusal.bad_form 1 (Text.line_parts s) ≡ Refusal.bad_form (n + 1) (drop n (Text.line_parts s))

pub going_start : (s t : List ℕ) → Going s t 0 0
going_start s t = record { lined = lined-none s t; low = omega arith; here = refl; same = refl }

module _ (s t : List ℕ) (at n e : ℕ) (g : Going s t at n) (he : e ≡ at + length (until 10 (drop at s))) where
  pub going_done : length t ≡ 3072 → e ≡ length s → at ≡ e → Indexed s t n × (Refusal.bad_form 1 (Text.line_parts s) ≡ 0)
  going_done k3 l k =
      (indexed k3 g.lined (ends-count s at n e g.low g.here he l), ends-good s at n e g.low g.here he l k g.same)

  pub going-unended : e ≡ length s → (at ≡ e → ⊥) → (Refusal.bad_form 1 (Text.line_parts s) ≡ n + 1) × (0 < n + 1)
  going-unended l k = (ends-bad s at n e g.low g.here he l k g.same, omega arith)

  module _ (more : e < length s) where
    pub going-full : n ≡ 1024 → (Refusal.bad_form 1 (Text.line_parts s) ≡ n + 1) × (0 < n + 1)
    going-full k = (full-bad s at n e g.low g.here he more g.same k, omega arith)

    module _ (o : Option ℕ) (few : (n ≡ 1024 → ⊥)) (ho : o ≡ form_of (n + 1) (take (e - at) (drop at s))) where
      ho' : o ≡ form_of (n + 1) (text_at s n)
      ho' = ho ∙ ap (λ (l : List ℕ). form_of (n + 1) l) (text-is s at n e g.low g.here he more)

      less : n < 1024
      less = omega (arith, g.lined.few, few)

      pub going-none : o ≡ None → (Refusal.bad_form 1 (Text.line_parts s) ≡ n + 1) × (0 < n + 1)
      going-none z = (form-bad s at n e g.low g.here he more g.same less (has-no-form (n + 1) (text_at s n) (sym z ∙ ho')), omega arith)

      pub going_on : (u : List ℕ) {f : ℕ} → o ≡ Some f → length s ≤ 65535 → 3072 ≤ length t → u ≡ line_entered t n at f → Going s u (e + 1) (n + 1)
      going_on u {f} z small room hu =
          let w = has-form (n + 1) f (text_at s n) (sym z ∙ ho') in
          record {
            lined = lined-more s t u n at f g.lined room hu less (omega (arith, g.low)) g.here g.low w.1 w.0;
            low = omega arith;
            here = next-parts s at n e g.low g.here he more;
            same = form-good s at n e g.low g.here he more g.same less w.0;
          }

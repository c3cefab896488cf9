-- Laws of the parts of a text.
use Prim.Native.Nat.{ℕ, zero, suc, ◌+◌, ◌-◌, ◌≤◌, ◌<◌}
use mathlib.Core.Path.{◌≡◌, refl, sym, ap, ◌∙◌}
use mathlib.Core.Bool.{Bool, true, false, cond}
use mathlib.Core.List.{List, [], ◌∷◌}
use native.Mathlib.Numerals.{add-one}
use native.Mathlib.Nat.{add-zero}
use native.Mathlib.Omega.{arith}
use lib.ListN.{length, take, drop, get_or, drop_of_length-le, length-drop}
use lib.Seq.{drop-cons, drop-drop, drop-length, take-nil, length-take-le, take-take}
use lib.Dec.{eqb, ltb, leb-suc-suc}
use borrow.Author.Tests.{eq-eqb, ne_eqb, lt-ltb, le-ltb, ltb-true, ltb-false}
use Rattle.semantics.specs.Text.{Bytes, head_part, parts_at, part_start, line_parts, line_text, has_line, has_field, field_of, field_start}
use Rattle.text.specs.Parts.{until, part_start_at, StandsAt}

-- ---- the first part

module _ (c b : ℕ) (bs : Bytes) where
  until-same : eqb b c ≡ true → until c (b ∷ bs) ≡ []
  unfolding until
  until-same e = simp e

  until-other : eqb b c ≡ false → until c (b ∷ bs) ≡ b ∷ until c bs
  unfolding until
  until-other e = simp e

module _ (s : Bytes) (c i : ℕ) where
  pub until-hit : i < length s → get_or s i 0 ≡ c → until c (drop i s) ≡ []
  until-hit h e = rw (drop-cons s i 0 h) (until-same c (get_or s i 0) (drop (suc i) s) (eq-eqb (get_or s i 0) c e))

  pub until-miss : i < length s → (get_or s i 0 ≡ c → ⊥) → i + length (until c (drop i s)) ≡ i + 1 + length (until c (drop (i + 1) s))
  until-miss h e = rw (add-one, drop-cons s i 0 h, until-other c (get_or s i 0) (drop (suc i) s) (ne_eqb (get_or s i 0) c e)) (omega arith)

  pub until_end : length s ≤ i → until c (drop i s) ≡ []
  unfolding until
  until_end h = rw (drop_of_length-le s h)

-- the bytes before the first c are as many as its place says
pub until-take : (c : ℕ) (s : Bytes) → take (length (until c s)) s ≡ until c s
unfolding until
until-take c [] = refl
until-take c (b ∷ bs) = go (eqb b c) refl (until-take c bs)
  where
    go : (t : Bool) → eqb b c ≡ t → take (length (until c bs)) bs ≡ until c bs → take (length (until c (b ∷ bs))) (b ∷ bs) ≡ until c (b ∷ bs)
    go true e h = simp e
    go false e h = simp e (ap (λ (l : Bytes). b ∷ l) h)

until-le : (c : ℕ) (s : Bytes) → length (until c s) ≤ length s
unfolding until
until-le c [] = omega arith
until-le c (b ∷ bs) = go (eqb b c) refl (until-le c bs)
  where
    go : (t : Bool) → eqb b c ≡ t → length (until c bs) ≤ length bs → length (until c (b ∷ bs)) ≤ suc (length bs)
    go true e h = simp e (omega arith)
    go false e h = simp e (omega arith)

-- ---- all parts: the first, and those behind the first c; or the text alone where it has no c

pub parts-step : (c : ℕ) (s : Bytes) → length (until c s) < length s → parts_at c s ≡ until c s ∷ parts_at c (drop (suc (length (until c s))) s)
unfolding until
parts-step c [] h = absurd (omega arith)
parts-step c (b ∷ bs) h = go (eqb b c) refl (λ k. parts-step c bs k)
  where
    go : (t : Bool) → eqb b c ≡ t
        → (length (until c bs) < length bs → parts_at c bs ≡ until c bs ∷ parts_at c (drop (suc (length (until c bs))) bs))
        → parts_at c (b ∷ bs) ≡ until c (b ∷ bs) ∷ parts_at c (drop (length (until c (b ∷ bs))) bs)
    go true q ih = simp q
    go false q ih =
        let k : length (until c bs) < length bs = omega (arith, simp q at h) in
        simp q (rw (ih k))

pub parts-one : (c : ℕ) (s : Bytes) → length s ≤ length (until c s) → parts_at c s ≡ s ∷ []
unfolding until
parts-one c [] h = refl
parts-one c (b ∷ bs) h = go (eqb b c) refl (λ k. parts-one c bs k)
  where
    go : (t : Bool) → eqb b c ≡ t → (length bs ≤ length (until c bs) → parts_at c bs ≡ bs ∷ []) → parts_at c (b ∷ bs) ≡ (b ∷ bs) ∷ []
    go true q ih = absurd (omega (arith, simp q at h))
    go false q ih =
        let k : length bs ≤ length (until c bs) = omega (arith, simp q at h) in
        simp q (rw (ih k))

-- ---- where parts begin

pub start-step : (c m : ℕ) (s : Bytes) → length (until c s) < length s → part_start_at c (suc m) s ≡ length (until c s) + 1 + part_start_at c m (drop (suc (length (until c s))) s)
unfolding part_start_at
start-step c m s h =
    rw (parts-step c s h) (rw leb-suc-suc (go (drop (suc (length (until c s))) s) (length-drop (suc (length (until c s))) s) (ltb m (length (parts_at c (drop (suc (length (until c s))) s))))))
  where
    go : (r : Bytes) → length r ≡ length s - suc (length (until c s)) → (t : Bool)
        → cond t (length (until c s) + 1 + part_start (parts_at c r) m) (length s + 1) ≡ length (until c s) + 1 + cond t (part_start (parts_at c r) m) (length r + 1)
    go r e true = refl
    go r e false = omega arith

pub start_none : (c m : ℕ) (s : Bytes) → length s ≤ length (until c s) → part_start_at c (suc m) s ≡ length s + 1
unfolding part_start_at
start_none c m s h = rw (parts-one c s h) (simp (le-ltb (suc m) 1 (omega arith)))

pub start-zero : (c : ℕ) (s : Bytes) → part_start_at c 0 s ≡ 0
unfolding part_start_at
start-zero c s = go (ltb (length (until c s)) (length s)) refl
  where
    go : (t : Bool) → ltb (length (until c s)) (length s) ≡ t → cond (ltb 0 (length (parts_at c s))) 0 (length s + 1) ≡ 0
    go true e = rw (parts-step c s (ltb-true (length (until c s)) (length s) e)) (simp (lt-ltb 0 (suc (length (parts_at c (drop (suc (length (until c s))) s)))) (omega arith)))
    go false e = rw (parts-one c s (ltb-false (length (until c s)) (length s) e))

-- a part begins within the text, or is absent
start-le : (c n : ℕ) (s : Bytes) → n < length (parts_at c s) → part_start_at c n s ≤ length s
start-le c zero s h = rw start-zero (omega arith)
start-le c (suc n) s h = go (ltb (length (until c s)) (length s)) refl (λ k. start-le c n (drop (suc (length (until c s))) s) k)
  where
    go : (t : Bool) → ltb (length (until c s)) (length s) ≡ t
        → (n < length (parts_at c (drop (suc (length (until c s))) s)) → part_start_at c n (drop (suc (length (until c s))) s) ≤ length (drop (suc (length (until c s))) s))
        → part_start_at c (suc n) s ≤ length s
    go true e ih =
        let l : length (until c s) < length s = ltb-true (length (until c s)) (length s) e in
        rw (start-step c n s l) (omega (arith, ih (omega (arith, ap length (parts-step c s l))), length-drop (suc (length (until c s))) s))
    go false e ih = absurd (omega (arith, ap length (parts-one c s (ltb-false (length (until c s)) (length s) e))))

module _ (c n : ℕ) (s : Bytes) where
  -- what a start within the text, or past it, says of the part
  part-there : part_start_at c n s ≤ length s → ltb n (length (parts_at c s)) ≡ true
  unfolding part_start_at
  part-there h = go (ltb n (length (parts_at c s))) refl
    where
      go : (t : Bool) → ltb n (length (parts_at c s)) ≡ t → ltb n (length (parts_at c s)) ≡ true
      go true e = e
      go false e = absurd (omega (arith, simp e at h))

  pub part-absent : length s < part_start_at c n s → ltb n (length (parts_at c s)) ≡ false
  part-absent h = go (ltb n (length (parts_at c s))) refl
    where
      go : (t : Bool) → ltb n (length (parts_at c s)) ≡ t → ltb n (length (parts_at c s)) ≡ false
      go false e = e
      go true e = absurd (omega (arith, start-le c n s (ltb-true n (length (parts_at c s)) e)))

  start-there : part_start_at c n s ≤ length s → part_start (parts_at c s) n ≡ part_start_at c n s
  unfolding part_start_at
  start-there h = rw (part-there h)

first : (ps : List Bytes) → get_or ps 0 [] ≡ head_part ps
first [] = refl
first (p ∷ ps) = refl

part-zero : (c : ℕ) (s : Bytes) → get_or (parts_at c s) 0 [] ≡ until c s
unfolding until
part-zero c s = first (parts_at c s)

-- part n is what stands before the next c from where it begins
part-at : (c n : ℕ) (s : Bytes) → n < length (parts_at c s) → get_or (parts_at c s) n [] ≡ until c (drop (part_start_at c n s) s)
part-at c zero s h = rw start-zero (part-zero c s)
part-at c (suc n) s h = go (ltb (length (until c s)) (length s)) refl (λ k. part-at c n (drop (suc (length (until c s))) s) k)
  where
    go : (t : Bool) → ltb (length (until c s)) (length s) ≡ t
        → (n < length (parts_at c (drop (suc (length (until c s))) s)) → get_or (parts_at c (drop (suc (length (until c s))) s)) n [] ≡ until c (drop (part_start_at c n (drop (suc (length (until c s))) s)) (drop (suc (length (until c s))) s)))
        → get_or (parts_at c s) (suc n) [] ≡ until c (drop (part_start_at c (suc n) s) s)
    go true e ih =
        let l : length (until c s) < length s = ltb-true (length (until c s)) (length s) e in
        rw (start-step c n s l)
        (ap (λ (ps : List Bytes). get_or ps (suc n) []) (parts-step c s l)
        ∙ ih (omega (arith, ap length (parts-step c s l)))
        ∙ ap (until c) (drop-drop (part_start_at c n (drop (suc (length (until c s))) s)) (suc (length (until c s))) s ∙ rw add-one))
    go false e ih = absurd (omega (arith, ap length (parts-one c s (ltb-false (length (until c s)) (length s) e))))

-- the part as a view: from where it begins to the next c
pub part-view : (c n a z : ℕ) (s : Bytes) → a ≡ part_start_at c n s → a ≤ length s → z ≡ a + length (until c (drop a s)) → take (z - a) (drop a s) ≡ get_or (parts_at c s) n []
part-view c n a z s ha h hz =
    let q : z - a ≡ length (until c (drop a s)) = omega arith in
    let l : part_start_at c n s ≤ length s = omega arith in
    rw q (until-take c (drop a s) ∙ ap (λ (j : ℕ). until c (drop j s)) ha ∙ sym (part-at c n s (ltb-true n (length (parts_at c s)) (part-there c n s l))))

-- ---- a turn of `skip`: e is where the next c stands

module _ (c n k at : ℕ) (s : Bytes) {e : ℕ} (more : k < n) (in_range : at ≤ length s) (found : e ≡ at + length (until c (drop at s))) where
  left : n - k ≡ suc (n - (k + 1))
  left = omega arith

  pub skip-turn : (e ≡ length s → ⊥) → at + part_start_at c (n - k) (drop at s) ≡ e + 1 + part_start_at c (n - (k + 1)) (drop (e + 1) s)
  skip-turn ne =
      let h : length (until c (drop at s)) < length (drop at s) = omega (arith, until-le c (drop at s), length-drop at s) in
      let q : at + suc (length (until c (drop at s))) ≡ e + 1 = omega arith in
      let d : drop (suc (length (until c (drop at s)))) (drop at s) ≡ drop (e + 1) s = drop-drop (suc (length (until c (drop at s)))) at s ∙ ap (λ (j : ℕ). drop j s) q in
      rw left (rw (start-step c (n - (k + 1)) (drop at s) h) (rw d (omega arith)))

  pub skip_stop : e ≡ length s → at + part_start_at c (n - k) (drop at s) ≡ e + 1
  skip_stop eq =
      let h : length (drop at s) ≤ length (until c (drop at s)) = omega (arith, length-drop at s) in
      rw left (rw (start_none c (n - (k + 1)) (drop at s) h) (omega (arith, length-drop at s)))

pub skip-end : (c n k at : ℕ) (s : Bytes) → part_start_at c n s ≡ at + part_start_at c (n - k) (drop at s) → k ≤ n → n ≤ k → at ≡ part_start_at c n s
skip-end c n k at s h l g =
    let z : n - k ≡ 0 = omega arith in
    sym (h ∙ rw (z, start-zero) (rw add-zero))

-- ---- fields

-- k bytes from x of the first m
within_first : (k x m : ℕ) (l : Bytes) → x + k ≤ m → take k (drop x (take m l)) ≡ take k (drop x l)
within_first k zero m l h = take-take k m l (omega arith)
within_first k (suc x) zero l h = absurd (omega arith)
within_first k (suc x) (suc m) [] h = refl
within_first k (suc x) (suc m) (b ∷ bs) h = within_first k x m bs (omega arith)

-- a part of a part: the bytes x to y of those from a to e
part-of-part : (s : Bytes) (a e x y : ℕ) → x ≤ y → y ≤ e - a → take (a + y - (a + x)) (drop (a + x) s) ≡ take (y - x) (drop x (take (e - a) (drop a s)))
part-of-part s a e x y o h =
    let q : a + y - (a + x) ≡ y - x = omega arith in
    rw q (sym (within_first (y - x) x (e - a) (drop a s) (omega arith) ∙ ap (take (y - x)) (drop-drop x a s)))

-- a field that is not there stands at the sheet's end
abbrev Absent : Bytes → ℕ → ℕ → Type 0
Absent s n i = StandsAt s n i (length s) (length s)

absent : (s : Bytes) (n i : ℕ) → has_field s n i ≡ false → Absent s n i
unfolding field_of field_start
absent s n i h = record { starts = simp h; ordered = omega arith; within = omega arith; view = rw (drop-length, take-nil) (simp h) }

pub no-line-zero : (s : Bytes) (n i : ℕ) → n ≡ 0 → Absent s n i
no-line-zero s n i e = absent s n i (rw e)

module _ (s : Bytes) (n i : ℕ) {a : ℕ} (some : n ≡ 0 → ⊥) (ha : a ≡ part_start_at 10 (n - 1) s) where
  has-line : has_line s n ≡ ltb (n - 1) (length (line_parts s))
  has-line = go n some
    where
      go : (n : ℕ) → (n ≡ 0 → ⊥) → has_line s n ≡ ltb (n - 1) (length (line_parts s))
      go zero h = absurd (h refl)
      go (suc m) h = let q : suc m - 1 ≡ m = omega arith in rw q

  line-is : line_text s n ≡ get_or (line_parts s) (n - 1) []
  line-is = go n some
    where
      go : (n : ℕ) → (n ≡ 0 → ⊥) → line_text s n ≡ get_or (line_parts s) (n - 1) []
      go zero h = absurd (h refl)
      go (suc m) h = let q : suc m - 1 ≡ m = omega arith in rw q

  pub no_line : length s < a → Absent s n i
  no_line h = absent s n i (rw (has-line, part-absent 10 (n - 1) s (omega arith)))

  -- the line begins at a and ends at e; x is where field i begins in it
  module _ (h : a ≤ length s) {e : ℕ} (he : e ≡ a + length (until 10 (drop a s))) where
    abbrev line : Bytes
    line = take (e - a) (drop a s)

    line_view : line ≡ line_text s n
    line_view = part-view 10 (n - 1) a e s ha h he ∙ sym line-is

    begins : part_start_at 10 (n - 1) s ≤ length s
    begins = omega arith

    module _ {x : ℕ} (hx : x ≡ part_start_at 44 i line) where
      pub no_field : length line < x → Absent s n i
      no_field l = absent s n i (rw (has-line, part-there 10 (n - 1) s begins, ← line_view, part-absent 44 i line (omega arith)))

      pub a-field : {y : ℕ} → e ≤ length s → x ≤ length line → y ≡ x + length (until 44 (drop x line)) → y ≤ length line → StandsAt s n i (a + x) (a + y)
      unfolding field_of field_start
      a-field {y} w l hy m =
          let k : part_start_at 44 i line ≤ length line = omega arith in
          let there : has_field s n i ≡ true = rw (has-line, part-there 10 (n - 1) s begins, ← line_view, part-there 44 i line k) in
          let lengths : length line ≡ e - a = length-take-le (e - a) (drop a s) (omega (arith, length-drop a s)) in
          record {
            starts = sym (simp there (rw (start-there 10 (n - 1) s begins, ← ha, ← line_view, start-there 44 i line k, ← hx)));
            ordered = omega arith;
            within = omega arith;
            view = part-of-part s a e x y (omega arith) (omega arith) ∙ part-view 44 i x y line hx l hy ∙ sym (simp there (rw (← line_view)));
          }

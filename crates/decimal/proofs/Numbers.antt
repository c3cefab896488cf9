-- Laws of decimal numbers and integers.
use Prim.Native.Nat.{ℕ, zero, suc, ◌+◌, ◌-◌, ◌*◌, ◌≤◌, ◌<◌, min}
use mathlib.Core.Path.{◌≡◌, refl, sym, ap, ◌∙◌}
use mathlib.Core.Bool.{Bool, true, false, cond, and-true}
use mathlib.Core.List.{[], ◌∷◌}
use Rattle.std.specs.Prelude.{Option, None, Some, pos, eqb}
use Rattle.std.specs.Option.{option_map, option_and_then, SomeIff}
use Rattle.std.specs.Result.{OkIff, result_ok}
use Rattle.std.specs.Int.RustNames.{FitsSigned}
use Rattle.std.proofs.Common.{Result, Ok, Err, take, ◌⊎◌, inl, inr, w64, leb, ◌-ℤ◌}
use Rattle.std.specs.Cmp.Lexicographic.{pointwise}
use Rattle.std.proofs.lemmas.Int.{ints, fits_signed_from_abs}
use Rattle.semantics.proofs.Common.{never}
use native.Mathlib.Numerals.{add-one}
use native.Mathlib.Omega.{arith}
use lib.IntN.{ℤ, negsuc}
use lib.ListN.{length, drop, get_or, drop_of_length-le}
use lib.Seq.{drop-cons}
use borrow.Author.Tests.{eq-eqb, ne_eqb, le-leb, lt-leb, leb-true, leb-false, lt-ltb, le-ltb, eqb-true}
use Rattle.semantics.specs.Text.{Bytes, is_digit, digits_value, nat_of, negative, int_of, map_option}
use Rattle.decimal.specs.declared.Signed.TheVariants.{Plus, Minus}
use Rattle.decimal.specs.declared.Signed.{Signed}
use Rattle.decimal.specs.Number.{most, up_to, signed, signed_of, integer_of, is_between}

-- ---- digits behind others, where all that is known of a large number is that it is large

saturated : (cap n m : ℕ) (s : Bytes) → cap ≤ n → cap ≤ m → up_to cap (digits_value n s) ≡ up_to cap (digits_value m s)
saturated cap n m [] h k = let e : min n cap ≡ min m cap = omega arith in ap Some e
saturated cap n m (b ∷ bs) h k = go (is_digit b) (saturated cap (n * 10 + (b - 48)) (m * 10 + (b - 48)) bs (omega arith) (omega arith))
  where
    go : (t : Bool) → up_to cap (digits_value (n * 10 + (b - 48)) bs) ≡ up_to cap (digits_value (m * 10 + (b - 48)) bs)
        → up_to cap (cond t (digits_value (n * 10 + (b - 48)) bs) None) ≡ up_to cap (cond t (digits_value (m * 10 + (b - 48)) bs) None)
    go true ih = ih
    go false ih = refl

at_most : (cap n r : ℕ) (s : Bytes) → r ≡ min n cap → up_to cap (digits_value n s) ≡ up_to cap (digits_value r s)
at_most cap n r s h = go (leb n cap) refl
  where
    go : (t : Bool) → leb n cap ≡ t → up_to cap (digits_value n s) ≡ up_to cap (digits_value r s)
    go true q = let l = leb-true n cap q in let e : n ≡ r = omega arith in ap (λ (j : ℕ). up_to cap (digits_value j s)) e
    go false q = let l = leb-false n cap q in saturated cap n r s (omega arith) (omega arith)

module _ (n i : ℕ) (s : Bytes) (h : i < length s) where
  pub digit_bad : is_digit (get_or s i 0) ≡ false → up_to most (digits_value n (drop i s)) ≡ None
  digit_bad e = rw (drop-cons s i 0 h) (rw e)

  pub digit-turn : {r : ℕ} → is_digit (get_or s i 0) ≡ true → r ≡ min (n * 10 + (get_or s i 0 - 48)) most → up_to most (digits_value n (drop i s)) ≡ up_to most (digits_value r (drop (i + 1) s))
  digit-turn {r} l e = rw (drop-cons s i 0 h) (rw l (at_most most _ r (drop (suc i) s) e ∙ rw add-one))

-- ---- numbers: a zero stands alone

pub nat-none : (s : Bytes) → eqb (length s) 0 ≡ true → nat_of s ≡ None
unfolding nat_of
nat-none [] h = refl
nat-none (b ∷ bs) h = absurd (omega (arith, eqb-true _ _ h))

pub nat-leading : (s : Bytes) → get_or s 0 0 ≡ 48 → 1 < length s → nat_of s ≡ None
unfolding nat_of
nat-leading [] e h = absurd (omega arith)
nat-leading (b ∷ []) e h = absurd (omega arith)
nat-leading (b ∷ (c ∷ bs)) e h = simp (eq-eqb b 48 e)

pub nat-digits : (s : Bytes) → eqb (length s) 0 ≡ false → (get_or s 0 0 ≡ 48) × (length s ≤ 1) ⊎ (get_or s 0 0 ≡ 48 → ⊥) → nat_of s ≡ digits_value 0 s
unfolding nat_of
nat-digits [] h k = never (sym h)
nat-digits (b ∷ []) h k = refl
nat-digits (b ∷ (c ∷ bs)) h (inl k) = absurd (omega arith)
nat-digits (b ∷ (c ∷ bs)) h (inr n) = simp (ne_eqb b 48 n)

-- nothing is left behind the end
pub nat-past : (s : Bytes) (i : ℕ) → length s ≤ i → nat_of (drop i s) ≡ None
unfolding nat_of
nat-past s i h = rw (drop_of_length-le s {i = i} h)

-- ---- integers: `-` stands only before a number other than 0

-- whether a text begins with `-`
abbrev pub negated : Bytes → Bool
negated s = pointwise eqb (take 1 s) (45 ∷ [])

-- an integer below 0, by its magnitude
abbrev pub below_zero : ℕ → Option Signed
below_zero n = cond (eqb n 0) None (Some (Minus n))

minus-by : (o : Option ℕ) → option_map signed (negative o) ≡ option_and_then below_zero (up_to most o)
minus-by None = refl
minus-by (Some zero) = refl
minus-by (Some (suc n)) = let e : eqb (min (suc n) most) 0 ≡ false = ne_eqb _ 0 (λ z. omega arith) in simp e

plus-by : (o : Option ℕ) → option_map signed (map_option pos o) ≡ option_map Plus (up_to most o)
plus-by None = refl
plus-by (Some n) = refl

pub signed-minus : (s : Bytes) {m : Bytes} {o : Option ℕ} → negated s ≡ true → m ≡ drop 1 s → o ≡ up_to most (nat_of m) → signed_of s ≡ option_and_then below_zero o
unfolding signed_of int_of
signed-minus [] e h k = never e
signed-minus (b ∷ bs) {m} {o} e h k =
    let q : eqb b 45 ≡ true = sym (and-true (eqb b 45)) ∙ e in
    simp q (rw (k, h) (minus-by (nat_of bs)))

pub signed-plus : (s : Bytes) {o : Option ℕ} → negated s ≡ false → o ≡ up_to most (nat_of s) → signed_of s ≡ option_map Plus o
unfolding signed_of int_of nat_of
signed-plus [] e k = rw k refl
signed-plus (b ∷ bs) e k =
    let q : eqb b 45 ≡ false = sym (and-true (eqb b 45)) ∙ e in
    simp q (rw k (plus-by (nat_of (b ∷ bs))))

-- the integer, by sign and magnitude
module _ (s : Bytes) where
  pub none-known : None ≡ signed_of s → int_of s ≡ None
  unfolding signed_of
  none-known e = go (int_of s) e
    where
      go : (o : Option ℤ) → None ≡ option_map signed o → o ≡ None
      go None e = refl
      go (Some (pos n)) e = never cc
      go (Some (negsuc n)) e = never cc

  module _ {n : ℕ} where
    pub plus-known : Some (Plus n) ≡ signed_of s → (m : ℕ) × (int_of s ≡ Some (pos m)) × (n ≡ min m most)
    unfolding signed_of
    plus-known e = go (int_of s) e
      where
        go : (o : Option ℤ) → Some (Plus n) ≡ option_map signed o → (m : ℕ) × (o ≡ Some (pos m)) × (n ≡ min m most)
        go None e = never cc
        go (Some (pos m)) e = (m, refl, cc)
        go (Some (negsuc m)) e = never cc

    pub minus-known : Some (Minus n) ≡ signed_of s → (m : ℕ) × (int_of s ≡ Some (negsuc m)) × (n ≡ min (suc m) most)
    unfolding signed_of
    minus-known e = go (int_of s) e
      where
        go : (o : Option ℤ) → Some (Minus n) ≡ option_map signed o → (m : ℕ) × (o ≡ Some (negsuc m)) × (n ≡ min (suc m) most)
        go None e = never cc
        go (Some (pos m)) e = never cc
        go (Some (negsuc m)) e = (m, refl, cc)

cut-leb : (k n m : ℕ) → m ≡ min n most → k < most → leb m k ≡ leb n k
cut-leb k n m e h = go (leb n k) refl
  where
    go : (t : Bool) → leb n k ≡ t → leb m k ≡ t
    go true q = let l = leb-true n k q in le-leb m k (omega arith)
    go false q = let l = leb-false n k q in lt-leb m k (omega arith)

module _ (s : Bytes) (lo hi : ℕ) where
  pub none_within : None ≡ signed_of s → false ≡ is_between lo hi s
  unfolding is_between
  none_within e = rw (none-known s e)

  module _ {n k : ℕ} where
    pub plus-within : Some (Plus n) ≡ signed_of s → k ≡ hi → hi < most → leb n k ≡ is_between lo hi s
    unfolding is_between
    plus-within e h l = let q = plus-known s e in rw (h, q.1) (cut-leb hi q.0 n q.2 l)

    pub minus-within : Some (Minus n) ≡ signed_of s → k ≡ lo → lo < most → leb n k ≡ is_between lo hi s
    unfolding is_between
    minus-within e h l = let q = minus-known s e in rw (h, q.1) (cut-leb lo (suc q.0) n q.2 l)

-- ---- integers of 64 bits

some_by : {P : Type 0} {v : ℤ} (r o : Option ℤ) → SomeIff r P v → (P → Some v ≡ o) → ((P → ⊥) → None ≡ o) → r ≡ o
some_by None o h p q = q h
some_by (Some x) o h p q = ap Some h.1 ∙ p h.0

ok_by : {E : Type 0} (P : Type 0) (v : ℤ) (r : Result ℤ E) → OkIff r P v → SomeIff (result_ok r) P v
ok_by P v (Ok x) h = h
ok_by P v (Err e) h = h

beyond : {n : ℕ} → (n ≤ 9223372036854775807 → ⊥) → 9223372036854775807 < n
beyond h = omega arith

fits_negsuc : {n : ℕ} → n ≤ 9223372036854775807 → FitsSigned w64 (negsuc n)
fits_negsuc {n} h = omega (arith, ints)

module _ (s : Bytes) where
  pub integer-none : None ≡ signed_of s → None ≡ integer_of s
  unfolding integer_of
  integer-none e = rw (none-known s e)

  module _ {n : ℕ} where
    pub integer-plus : {E : Type 0} (r : Result ℤ E) → Some (Plus n) ≡ signed_of s → OkIff r (FitsSigned w64 (pos n)) (pos n) → result_ok r ≡ integer_of s
    unfolding integer_of
    integer-plus r e h =
        let q = plus-known s e in
        rw q.1 (some_by _ _ (ok_by _ _ r h)
        (λ f. let l : q.0 ≤ 9223372036854775807 = omega (arith, ints, f, q.2) in let k : n ≡ q.0 = omega (arith, q.2) in simp (le-leb _ _ l) (ap (λ (j : ℕ). Some (pos j)) k))
        (λ f. let l : 9223372036854775807 < q.0 = beyond (λ k. f (fits_signed_from_abs w64 (pos n) (omega (arith, q.2, k)))) in simp (lt-leb _ _ l)))

    pub integer-minus : (r : Option ℤ) → Some (Minus n) ≡ signed_of s → SomeIff r (FitsSigned w64 (pos 0 -ℤ pos n)) (pos 0 -ℤ pos n) → r ≡ integer_of s
    unfolding integer_of
    integer-minus r e h =
        let q = minus-known s e in
        rw q.1 (some_by _ _ h
        (λ f. let l : q.0 < 9223372036854775808 = omega (arith, ints, f, q.2) in let k : pos 0 -ℤ pos n ≡ negsuc q.0 = omega (arith, ints, q.2) in simp (lt-ltb _ _ l) (ap Some k))
        (λ f. let l : 9223372036854775807 < q.0 = beyond (λ k. let e : pos 0 -ℤ pos n ≡ negsuc q.0 = omega (arith, ints, q.2, k) in f (rw e (fits_negsuc k))) in let m : 9223372036854775808 ≤ q.0 = omega (arith, l) in simp (le-ltb q.0 9223372036854775808 m)))

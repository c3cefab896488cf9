-- An integer to a real: the bit pattern that `from_u64` puts together from the leading digits of n is that of n rounded.
-- Both are reals of the format, and the same whole number, so they are one (`whole_unique`).
use Rattle.std.proofs.Common.{◌≡◌, ℕ, zero, suc, ◌+◌, ◌-◌, ◌*◌, ◌/◌, ◌%◌, ◌^◌, ◌<◌, ◌≤◌, Bool, true, false, cond, not, T, eqb, ltb, leb, ℤ, pos, negsuc, nat_abs, sym, refl, ap, ◌∙◌, subst, true≢false, le_trans, le_of_eq, lt_of_lt_of_le, lt_of_le_of_lt, mul-le-mul_right, zero-lt-suc, mul_assoc, le_antisymm, suc-add, mul-pos, one-mul, lt_of_not-le, mul-one, mul_right_comm, not-le_of_lt, div-one, add-one, arith, lit<, eqb→eq, leb→le, pow_pos, pow_mono, pow-add, shl_lt, shl_exact, to_z-of_z, w64, Fits, SFits, to_z, of_z, ltb-false, ltb-true, le-ltb, ne_eqb}
use Prim.Native.Nat.{compare, Ordering}
use native.Mathlib.Nat.{eq_of_mul-eq-mul_right, pow-succ'}
use mathlib.Core.Bool.{false≢true}
use lib.Signed.{le_z}
use lib.Dec.{is_le, compare_is_eq, nleb→lt, eqb_refl, leb-zero}
use lib.Arith.{lt_of_le-ne}
use lib.Bits.{bit_and, and_mask}
use lib.Count.{count_leading_zeros, leading_top}
use lib.Ieee.{Float, inf, fin, Format, binary64, prec, low, emax, up, down, size, odd, of_bits, of_fields, nan_bits, nearest, round, units, neg}
use lib.Ieee.Bits.{nan_bits_above, of_bits-fits}
use lib.Ieee.Digits.{size-lt, size-le}
use lib.Ieee.Fits.{nearest-le, round_is, round-fits}
use lib.Ieee.Exact.{HasValue, odd_sign}
use lib.Ieee.Nearest.{closest, closest_same, nearest-ge}
use lib.Ieee.Scale.{grid, round_val}
use lib.Ieee.Back.{whole_unique}
use borrow.Author.Tests.{lt-leb}
use Rattle.semantics.specs.Fold.{to_real}
use Rattle.ints.proofs.Widths.{held, plain, turned-over}

-- ---- what the pattern (x + 1) * 2 ^ 52 + t is read as

of_bits_is : (b : ℕ) → of_bits binary64 b ≡ of_fields binary64 (leb 9223372036854775808 b) (b % 9223372036854775808 / 4503599627370496) (b % 4503599627370496)
unfolding of_bits
of_bits_is b = refl

fields-are : (x t : ℕ) → (suc x ≡ 2047 → ⊥) → of_fields binary64 false (suc x) t ≡ odd 53 false (4503599627370496 + t) x 1074
unfolding of_fields
fields-are x t h = rw (ne_eqb (suc x) 2047 h)

module _ (x t : ℕ) (X : x < 2000) (H : t < 4503599627370496) where
  abbrev b : ℕ
  b = suc x * 4503599627370496 + t

  small : b < 9223372036854775808
  small = omega arith

  exponent : b % 9223372036854775808 / 4503599627370496 ≡ suc x
  exponent = omega arith

  digits : b % 4503599627370496 ≡ t
  digits = omega arith

  other : suc x ≡ 2047 → ⊥
  other e = omega arith

  packed-is : of_bits binary64 b ≡ odd 53 false (4503599627370496 + t) x 1074
  packed-is =
      of_bits_is b
      ∙ ap (λ (s : Bool). of_fields binary64 s (b % 9223372036854775808 / 4503599627370496) (b % 4503599627370496)) (lt-leb 9223372036854775808 b small)
      ∙ ap (λ (k : ℕ). of_fields binary64 false k (b % 4503599627370496)) exponent
      ∙ ap (λ (k : ℕ). of_fields binary64 false (suc x) k) digits
      ∙ fields-are x t other

  packed : HasValue (of_bits binary64 b) false ((4503599627370496 + t) * 2 ^ x) (2 ^ 1074)
  packed = subst (λ (v : Float). HasValue v false ((4503599627370496 + t) * 2 ^ x) (2 ^ 1074)) (sym packed-is) (odd_sign 53 false (4503599627370496 + t) x 1074)

-- k * 2 ^ 52 + q, for a q of 53 digits or 2 ^ 53, is q * 2 ^ k smallest values
pub read : (k q : ℕ) → k < 1999 → 4503599627370496 ≤ q → q ≤ 9007199254740992 → HasValue (of_bits binary64 (k * 4503599627370496 + q)) false (q * 2 ^ k) (2 ^ 1074)
read k q K lo hi = go (ltb q 9007199254740992) refl
  where
    at : (b b' a a' : ℕ) → b ≡ b' → a ≡ a' → HasValue (of_bits binary64 b) false a (2 ^ 1074) → HasValue (of_bits binary64 b') false a' (2 ^ 1074)
    at b b' a a' p r h = subst (λ (x : ℕ). HasValue (of_bits binary64 x) false a' (2 ^ 1074)) p (subst (λ (x : ℕ). HasValue (of_bits binary64 b) false x (2 ^ 1074)) r h)

    less : (k : ℕ) → k < 1999 → (k < 2000) × (suc k < 2000)
    less k h = (omega arith, omega arith)

    one : (k q : ℕ) → 4503599627370496 ≤ q → suc k * 4503599627370496 + (q - 4503599627370496) ≡ k * 4503599627370496 + q
    one k q h = omega arith

    rest : (q : ℕ) → 4503599627370496 ≤ q → q < 9007199254740992 → (q - 4503599627370496 < 4503599627370496) × (4503599627370496 + (q - 4503599627370496) ≡ q)
    rest q h g = (omega arith, omega arith)

    top : (q : ℕ) → q ≤ 9007199254740992 → 9007199254740992 ≤ q → q ≡ 9007199254740992
    top q h g = omega arith

    two : (k q : ℕ) → q ≡ 9007199254740992 → suc (suc k) * 4503599627370496 + 0 ≡ k * 4503599627370496 + q
    two k q h = omega arith

    go : (t : Bool) → ltb q 9007199254740992 ≡ t → HasValue (of_bits binary64 (k * 4503599627370496 + q)) false (q * 2 ^ k) (2 ^ 1074)
    go true e =
        let r = rest q lo (ltb-true q 9007199254740992 e) in
        at _ _ _ _ (one k q lo) (ap (λ (x : ℕ). x * 2 ^ k) r.1) (packed k (q - 4503599627370496) (less k K).0 r.0)
    go false e =
        let r = top q hi (ltb-false q 9007199254740992 e) in
        at _ _ _ _ (two k q r) (ap (λ (x : ℕ). 4503599627370496 * x) (pow-succ' 2 k) ∙ sym (mul_assoc 4503599627370496 2 (2 ^ k)) ∙ ap (λ (x : ℕ). x * 2 ^ k) (sym r)) (packed (suc k) 0 (less k K).1 (lit< tt))

-- ---- the digits of n

size-gt : (n j : ℕ) → 2 ^ j ≤ n → j < size n
size-gt n j h = lt_of_not-le (λ (g : size n ≤ j). not-le_of_lt (lt_of_lt_of_le (size-lt n) (pow_mono g)) h)

size_is : (n j : ℕ) → 2 ^ j ≤ n → n < 2 ^ suc j → size n ≡ suc j
size_is n j lo hi = le_antisymm (size-le n (suc j) hi) (size-gt n j lo)

-- n, which has j + 1 digits, with its leading digit moved to place 63
module _ (n j z : ℕ) (e : z + suc j ≡ 64) (lo : 2 ^ j ≤ n) (hi : n < 2 ^ suc j) where
  abbrev top_aligned : ℕ
  top_aligned = n * 2 ^ z

  -- reals near n are 2 ^ grid_place apart, in units of the smallest value
  abbrev grid_place : ℕ
  grid_place = 1085 - z

  zj : j + z ≡ 63
  zj = omega arith

  top-aligned-is : n * 2 ^ z % 18446744073709551616 ≡ top_aligned
  top-aligned-is = shl_exact (suc j) z 64 hi (omega arith)

  top-aligned-lo : 9223372036854775808 ≤ top_aligned
  top-aligned-lo = le_trans (le_of_eq (ap (λ (x : ℕ). 2 ^ x) (sym zj) ∙ pow-add 2 j z)) (mul-le-mul_right (2 ^ z) lo)

  top-aligned-hi : top_aligned < 18446744073709551616
  top-aligned-hi = lt_of_lt_of_le (shl_lt (suc j) z hi) (le_of_eq (ap (λ (x : ℕ). 2 ^ x) (sum)))
    where
      sum : suc j + z ≡ 64
      sum = omega arith

  -- in units of the smallest value
  units-size : size (n * 2 ^ 1074 / 1) - 53 ≡ grid_place
  units-size = ap (λ (x : ℕ). size x - 53) (div-one (n * 2 ^ 1074)) ∙ ap (λ (x : ℕ). x - 53) (size_is (n * 2 ^ 1074) (j + 1074)
      (le_trans (le_of_eq (pow-add 2 j 1074)) (mul-le-mul_right (2 ^ 1074) lo))
      (lt_of_lt_of_le (shl_lt (suc j) 1074 hi) (le_of_eq (ap (λ (x : ℕ). 2 ^ x) (suc-add j 1074))))) ∙ sums
    where
      sums : suc (j + 1074) - 53 ≡ 1085 - z
      sums = omega arith

  -- what `closest` sees is the fraction alone
  fraction : n * 2 ^ 1074 * 2048 ≡ top_aligned * (1 * 2 ^ grid_place)
  fraction =
      mul_assoc n (2 ^ 1074) 2048
      ∙ ap (λ (x : ℕ). n * x) (ap (λ (x : ℕ). 2 ^ x) sums ∙ pow-add 2 z (1085 - z))
      ∙ sym (mul_assoc n (2 ^ z) (2 ^ grid_place))
      ∙ ap (λ (x : ℕ). top_aligned * x) (sym (one-mul (2 ^ grid_place)))
    where
      sums : 1085 ≡ z + (1085 - z)
      sums = omega arith

  abbrev q : ℕ
  q = closest top_aligned 2048

  grid-is : grid binary64 n 1 ≡ q * 2 ^ grid_place
  grid-is =
      ap (λ (x : ℕ). closest (n * 2 ^ 1074) (1 * 2 ^ x) * 2 ^ x) units-size
      ∙ ap (λ (x : ℕ). x * 2 ^ grid_place) (closest_same (n * 2 ^ 1074) (1 * 2 ^ grid_place) top_aligned 2048 (mul-pos (zero-lt-suc 0) (pow_pos grid_place)) (lit< tt) fraction)

  q-lo : 4503599627370496 ≤ q
  q-lo = le_trans (go top_aligned top-aligned-lo) (nearest-ge (top_aligned / 2048) (compare (top_aligned % 2048 * 2) 2048))
    where
      go : (m : ℕ) → 9223372036854775808 ≤ m → 4503599627370496 ≤ m / 2048
      go m h = omega arith

  q-hi : q ≤ 9007199254740992
  q-hi = le_trans (nearest-le (top_aligned / 2048) (compare (top_aligned % 2048 * 2) 2048)) (go top_aligned top-aligned-hi)
    where
      go : (m : ℕ) → m < 18446744073709551616 → suc (m / 2048) ≤ 9007199254740992
      go m h = omega arith

  grid-place-lt : grid_place < 1999
  grid-place-lt = omega arith

  -- the two values, in units of the smallest
  left-val : HasValue (of_bits binary64 (grid_place * 4503599627370496 + q)) false (q * 2 ^ grid_place) (2 ^ 1074)
  left-val = read grid_place q grid-place-lt q-lo q-hi

  room : q * 2 ^ grid_place < 2 ^ (1074 + 1024)
  room = lt_of_lt_of_le (shl_lt 54 grid_place (lt_of_le_of_lt q-hi (lit< tt))) (pow_mono (sums))
    where
      sums : 54 + (1085 - z) ≤ 2098
      sums = omega arith

  right-val : HasValue (round binary64 false n 1) false (q * 2 ^ grid_place) (2 ^ 1074)
  right-val =
      subst (λ (a : ℕ). HasValue (round binary64 false n 1) false a (2 ^ 1074)) grid-is
      (round_val binary64 n 1 (subst (λ (a : ℕ). a < 2 ^ (1074 + 1024)) (sym grid-is) room))

-- ---- a value of c * l / l is c
whole_of : (v : Float) (a c : ℕ) → a ≡ c * 2 ^ 1074 → HasValue v false a (2 ^ 1074) → HasValue v false c 1
whole_of (fin s u e) a c p h = (h.0, mul-one (u * up e) ∙ eq_of_mul-eq-mul_right (2 ^ 1074) (pow_pos 1074) (u * up e) (c * down e) (h.1 ∙ ap (λ (x : ℕ). x * down e) p ∙ mul_right_comm c (2 ^ 1074) (down e)))
whole_of lib.Ieee.nan a c p h = elim h [ ]
whole_of (inf _) a c p h = elim h [ ]

-- ---- what `compare` says of two numbers
abbrev Cmp : Ordering → ℕ → ℕ → Type 0
Cmp Ordering.lt a b = a < b
Cmp Ordering.eq a b = a ≡ b
Cmp Ordering.gt a b = b < a

cmp : (a b : ℕ) → Cmp (compare a b) a b
cmp a b = go (compare a b) (leb→le a b) (nleb→lt a b) (eqb→eq a b) (λ (e : a ≡ b). subst (λ (x : ℕ). T (eqb a x)) e (eqb_refl a))
  where
    go : (o : Ordering) → (T (is_le o) → a ≤ b) → (T (not (is_le o)) → b < a) → (T (compare_is_eq o) → a ≡ b) → (a ≡ b → T (compare_is_eq o)) → Cmp o a b
    go Ordering.lt h k e n = lt_of_le-ne (h tt) n
    go Ordering.eq h k e n = e tt
    go Ordering.gt h k e n = k tt

compared : (a b : ℕ) (o : Ordering) → Cmp o a b → compare a b ≡ o
compared a b o h = go (compare a b) (cmp a b) o h
  where
    go : (p : Ordering) → Cmp p a b → (o : Ordering) → Cmp o a b → p ≡ o
    go Ordering.lt k Ordering.lt h = refl
    go Ordering.lt k Ordering.eq h = absurd (omega arith)
    go Ordering.lt k Ordering.gt h = absurd (omega arith)
    go Ordering.eq k Ordering.lt h = absurd (omega arith)
    go Ordering.eq k Ordering.eq h = refl
    go Ordering.eq k Ordering.gt h = absurd (omega arith)
    go Ordering.gt k Ordering.lt h = absurd (omega arith)
    go Ordering.gt k Ordering.eq h = absurd (omega arith)
    go Ordering.gt k Ordering.gt h = refl

-- ---- what `rounded` returns: the quotient m / 2048, or the next number, by how the remainder compares with half of 2048
module _ (m : ℕ) where
  abbrev remainder : ℕ
  remainder = bit_and m 2047

  by-rest : (o : Ordering) → Cmp o (m % 2048 * 2) 2048 → nearest (m / 2048) o ≡ closest m 2048
  by-rest o h = ap (nearest (m / 2048)) (sym (compared (m % 2048 * 2) 2048 o h))

  pub rounded-up : 1024 < remainder → m / 2048 + 1 ≡ closest m 2048
  rounded-up h = add-one (m / 2048) ∙ by-rest Ordering.gt (omega (arith, and_mask m 11))

  pub rounded-tie : {r : ℕ} → remainder ≡ 1024 → r ≡ m / 2048 % 2 → m / 2048 + r ≡ closest m 2048
  rounded-tie h e = ap (λ (k : ℕ). m / 2048 + k) e ∙ by-rest Ordering.eq (omega (arith, and_mask m 11))

  pub rounded-down : remainder ≤ 1024 → (remainder ≡ 1024 → ⊥) → m / 2048 ≡ closest m 2048
  rounded-down h g = by-rest Ordering.lt (omega (arith, and_mask m 11))

-- ---- what `from_u64` returns
exact : (u : ℕ) → closest (u * 2048) 2048 ≡ u
exact u = sym (by-rest (u * 2048) Ordering.lt (omega arith)) ∙ go
  where
    go : u * 2048 / 2048 ≡ u
    go = omega arith

module _ (n j z : ℕ) (e : z + suc j ≡ 64) (lo : 2 ^ j ≤ n) (hi : n < 2 ^ suc j) where
  whole-size : (t : Bool) → ltb 11 z ≡ t → (c : ℕ) × (closest (n * 2 ^ z) 2048 * 2 ^ (1085 - z) ≡ c * 2 ^ 1074)
  whole-size false h =
      let l = ltb-false 11 z h in
      let s : 1085 - z ≡ 11 - z + 1074 = omega arith in (
        closest (n * 2 ^ z) 2048 * 2 ^ (11 - z),
        ap (λ (x : ℕ). closest (n * 2 ^ z) 2048 * x) (ap (λ (x : ℕ). 2 ^ x) s ∙ pow-add 2 (11 - z) 1074) ∙ sym (mul_assoc (closest (n * 2 ^ z) 2048) (2 ^ (11 - z)) (2 ^ 1074)),
      )
  whole-size true h =
      let l = ltb-true 11 z h in
      let s : z ≡ z - 11 + 11 = omega arith in
      let u : 1074 ≡ z - 11 + (1085 - z) = omega arith in
      let w : n * 2 ^ z ≡ n * 2 ^ (z - 11) * 2048 = ap (λ (x : ℕ). n * x) (ap (λ (x : ℕ). 2 ^ x) s ∙ pow-add 2 (z - 11) 11) ∙ sym (mul_assoc n (2 ^ (z - 11)) 2048) in (
        n,
        ap (λ (x : ℕ). x * 2 ^ (1085 - z)) (ap (λ (x : ℕ). closest x 2048) w ∙ exact (n * 2 ^ (z - 11)))
            ∙ mul_assoc n (2 ^ (z - 11)) (2 ^ (1085 - z))
            ∙ ap (λ (x : ℕ). n * x) (sym (ap (λ (x : ℕ). 2 ^ x) u ∙ pow-add 2 (z - 11) (1085 - z))),
      )

  same_float : of_bits binary64 ((1085 - z) * 4503599627370496 + closest (n * 2 ^ z) 2048) ≡ round binary64 false n 1
  same_float =
      let b = (1085 - z) * 4503599627370496 + closest (n * 2 ^ z) 2048 in
      let w = whole-size (ltb 11 z) refl in
      whole_unique binary64 (of_bits binary64 b) (round binary64 false n 1) false w.0 (of_bits-fits binary64 b) (round-fits binary64 false n 1)
      (whole_of (of_bits binary64 b) _ w.0 w.1 (left-val n j z e lo hi))
      (whole_of (round binary64 false n 1) _ w.0 w.1 (right-val n j z e lo hi))

to_real-is : (n : ℕ) → to_real (pos n) ≡ round binary64 false n 1
unfolding to_real
to_real-is n = refl

zero-real : of_bits binary64 0 ≡ to_real (pos 0)
unfolding of_bits to_real
zero-real = refl

pub real-of-zero : (n : ℕ) → n ≡ 0 → of_bits binary64 0 ≡ to_real (pos n)
real-of-zero n e = zero-real ∙ ap (λ (k : ℕ). to_real (pos k)) (sym e)

pub finite : {b : ℕ} → b ≤ 9218868437227405312 → T (not (nan_bits binary64 b))
finite {b} h = subst (λ (t : Bool). T (not t)) (sym (nan_bits_above binary64 b ∙ le-ltb 9218868437227405312 (b % 9223372036854775808) (omega arith))) tt

module _ (n : ℕ) (N : n < 18446744073709551616) (p : n ≡ 0 → ⊥) where
  some : 0 < n
  some = omega arith

  pub zeros-lt : count_leading_zeros 64 n < 64
  zeros-lt = let t = leading_top 64 n some N in go (count_leading_zeros 64 n) t.0 t.1
    where
      go : (z j : ℕ) → z + suc j ≡ 64 → z < 64
      go z j e = omega arith

  module _ {r : ℕ} (e : r ≡ closest (n * 2 ^ count_leading_zeros 64 n % 18446744073709551616) 2048) where
    abbrev pattern : ℕ
    pattern = (1085 - count_leading_zeros 64 n) * 4503599627370496 + r

    r-is : r ≡ closest (n * 2 ^ count_leading_zeros 64 n) 2048
    r-is = let t = leading_top 64 n some N in e ∙ ap (λ (x : ℕ). closest x 2048) (top-aligned-is n t.0 (count_leading_zeros 64 n) t.1 t.2 t.3)

    pub rounded-le : r ≤ 9007199254740992
    rounded-le = let t = leading_top 64 n some N in subst (λ (x : ℕ). x ≤ 9007199254740992) (sym r-is) (q-hi n t.0 (count_leading_zeros 64 n) t.1 t.2 t.3)

    pub real-of-pattern : of_bits binary64 pattern ≡ to_real (pos n)
    real-of-pattern =
        let t = leading_top 64 n some N in
        ap (λ (x : ℕ). of_bits binary64 ((1085 - count_leading_zeros 64 n) * 4503599627370496 + x)) r-is
        ∙ same_float n t.0 (count_leading_zeros 64 n) t.1 t.2 t.3
        ∙ sym (to_real-is n)

-- ---- a negative integer's float is that of its magnitude, negated

neg-odd : (d q k l : ℕ) → neg (odd d false q k l) ≡ odd d true q k l
unfolding neg odd
neg-odd d zero k l = refl
neg-odd d (suc q) k l = refl

neg-units : (f : Format) (q k : ℕ) → neg (units f false q k) ≡ units f true q k
unfolding units neg
neg-units f q k = go (ltb (q * 2 ^ k) (2 ^ (low f + suc (emax f))))
  where
    go : (b : Bool) → neg (cond b (odd (suc (prec f)) false q k (low f)) (inf false)) ≡ cond b (odd (suc (prec f)) true q k (low f)) (inf true)
    go true = neg-odd (suc (prec f)) q k (low f)
    go false = refl

negative-is : (n : ℕ) → to_real (negsuc n) ≡ round binary64 true (suc n) 1
unfolding to_real
negative-is n = refl

negated : (n : ℕ) → neg (to_real (pos (suc n))) ≡ to_real (negsuc n)
negated n = ap neg (to_real-is (suc n) ∙ round_is binary64 false (suc n) 1) ∙ neg-units binary64 _ _ ∙ sym (negative-is n ∙ round_is binary64 true (suc n) 1)

-- ---- what `from_i64` returns
pub real-of-positive : {z : ℤ} {x : Float} → SFits w64 z → le_z (pos 0) (held w64 z) ≡ true → x ≡ to_real (pos (nat_abs (held w64 z))) → x ≡ to_real z
real-of-positive {z = pos a} f t e = e ∙ ap (λ (m : ℕ). to_real (pos m)) (plain w64 f t).1
real-of-positive {z = negsuc a} f t e = absurd (false≢true (rw (to_z-of_z f) at t))

-- `!` gives one less than the magnitude of a negative integer
less_one : {a : ℕ} → SFits w64 (negsuc a) → le_z (pos 0) (held w64 (negsuc a)) ≡ false → nat_abs (to_z w64 (18446744073709551615 - of_z w64 (negsuc a))) ≡ a
less_one f t = omega (arith, (turned-over w64 f t).1)

pub magnitude-fits : {z : ℤ} → SFits w64 z → le_z (pos 0) (held w64 z) ≡ false → Fits w64 (nat_abs (to_z w64 (18446744073709551615 - of_z w64 z)) + 1)
magnitude-fits {z = pos a} f t = absurd (true≢false (sym (leb-zero a) ∙ (rw (to_z-of_z f) at t)))
magnitude-fits {z = negsuc a} f t = record { fits = omega (arith, less_one f t) }

pub real-of-negative : {z : ℤ} {x : Float} → SFits w64 z → le_z (pos 0) (held w64 z) ≡ false → x ≡ to_real (pos (nat_abs (to_z w64 (18446744073709551615 - of_z w64 z)) + 1)) → neg x ≡ to_real z
real-of-negative {z = pos a} f t e = absurd (true≢false (sym (leb-zero a) ∙ (rw (to_z-of_z f) at t)))
real-of-negative {z = negsuc a} f t e =
    ap neg (e ∙ ap (λ (k : ℕ). to_real (pos (k + 1))) (less_one f t) ∙ ap (λ (k : ℕ). to_real (pos k)) (add-one a)) ∙ negated a

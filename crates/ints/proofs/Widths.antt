-- Laws of integers that hold at every width: their low bits, the signed reading of these, and what the machine keeps of a signed value.
use Rattle.std.proofs.Common.{◌≡◌, ℕ, zero, suc, ◌+◌, ◌-◌, ◌*◌, ◌/◌, ◌%◌, ◌^◌, ◌<◌, ◌≤◌, min, Bool, true, false, cond, ◌&&◌, T, eqb, ltb, leb, ℤ, pos, negsuc, ◌+ℤ◌, neg_ℤ, nat_abs, sym, refl, ap, ◌∙◌, true≢false, le_trans, le_of_suc-le-suc, le_of_lt, mod-lt, mod-eq_of_lt, zero-lt-suc, add-mul, le_antisymm, sub-add_cancel, div-le_self, add-one, arith, pow_pos, lt_of_le_ones, to_z-of_z, Fits, SFits, to_z, of_z, ltb-false, ltb-true, eq-eqb, ne_eqb, leb-false, leb-true}
use native.Mathlib.Nat.{le-suc, div-lt_self, min-eq_left, min-eq_right}
use mathlib.Core.Bool.{false≢true}
use lib.IntN.{+ℤ_one, neg_ℤ-suc_ℤ}
use lib.Signed.{mag, non_neg, lt_z, le_z, quot_z}
use lib.Arith.{sub-sub_self}
use lib.Dec.{leb-zero}
use lib.Pow as Pow
use lib.Pow.{ones_sub-lt, ones_split, mod-mod-pow, mod-pow-add, le_ones}
use mir.Syntax.{Width}
use mir.Val.{bits, hbits, sel}
use mir.ValLaws.{bits-suc, pow-bits, half_full}
use mir.Facts.{to_z_pos, to_z-neg}
use Rattle.semantics.specs.Fold.{low_bits, signed_bits, is_zero, eq_z}

-- ---- low bits

-- two digits of base m are taken away one by one
digits-sub : (a b q r m : ℕ) → q ≤ a → r ≤ b → a * m + b - (q * m + r) ≡ (a - q) * m + (b - r)
digits-sub a b q r m h k = go (a * m) (q * m) ((a - q) * m) (sym (add-mul (a - q) q m) ∙ ap (λ (x : ℕ). x * m) (sub-add_cancel h))
  where
    go : (x y d : ℕ) → d + y ≡ x → x + b - (y + r) ≡ d + (b - r)
    go x y d e = omega arith

pub low-low : (j k : ℕ) (z : ℤ) → low_bits (j + k) z % 2 ^ k ≡ low_bits k z
low-low j k (pos n) = mod-mod-pow n j k
low-low j k (negsuc n) =
    let q = n / 2 ^ k % 2 ^ j in
    let r = n % 2 ^ k in
    ap (λ (x : ℕ). (2 ^ (j + k) - 1 - x) % 2 ^ k) (mod-pow-add n j k)
    ∙ ap (λ (x : ℕ). (x - (q * 2 ^ k + r)) % 2 ^ k) (ones_split j k)
    ∙ ap (λ (x : ℕ). x % 2 ^ k) (digits-sub (2 ^ j - 1) (2 ^ k - 1) q r (2 ^ k) (le_ones j (mod-lt (n / 2 ^ k) (pow_pos j))) (le_ones k (mod-lt n (pow_pos k))))
    ∙ Pow.low (2 ^ j - 1 - q) k (ones_sub-lt k r)

one_by_one : (p n : ℕ) → p - suc n ≡ p - 1 - n
one_by_one p n = omega arith

-- ---- the signed reading of bits

pub to_z-is : (w : Width) (n : ℕ) → to_z w n ≡ signed_bits (hbits w) n
to_z-is w n = go (ltb n (2 ^ hbits w)) (ap (λ (k : ℕ). 2 ^ k - suc n) (bits-suc w) ∙ one_by_one (2 ^ suc (hbits w)) n)
  where
    go : (t : Bool) {x y : ℕ} → x ≡ y → sel t (pos n) (negsuc x) ≡ cond t (pos n) (negsuc y)
    go true e = refl
    go false e = ap negsuc e

-- ---- what the machine keeps of a signed value

abbrev pub held : Width → ℤ → ℤ
held w z = to_z w (of_z w z)

pub bits_are : (w : Width) {z : ℤ} → SFits w z → of_z w z ≡ low_bits (bits w) z
bits_are w {z = pos n} f = sym (mod-eq_of_lt (half_full w f.sfits))
bits_are w {z = negsuc n} f = one_by_one (2 ^ bits w) n ∙ ap (λ (m : ℕ). 2 ^ bits w - 1 - m) (sym (mod-eq_of_lt (half_full w f.sfits)))

-- what a call says of the kept arguments it says of the arguments
pub from1 : {X : Type 0} (F : ℤ → X) {w : Width} {x : ℤ} {r : X} → SFits w x → r ≡ F (held w x) → r ≡ F x
from1 F f e = e ∙ ap F (to_z-of_z f)

pub from2 : {X : Type 0} (F : ℤ → ℤ → X) {w : Width} {x y : ℤ} {r : X} → SFits w x → SFits w y → r ≡ F (held w x) (held w y) → r ≡ F x y
from2 F {w} {x} {y} f g e = e ∙ ap (λ (z : ℤ). F z (held w y)) (to_z-of_z f) ∙ ap (F x) (to_z-of_z g)

-- ---- the machine's `!`, which turns over the bits, and the test of a sign

pub twice : (w : Width) {b : ℕ} → Fits w b → 2 ^ bits w - 1 - (2 ^ bits w - 1 - b) ≡ b
twice w f = sub-sub_self (le_ones (bits w) f.fits)

not-pos : (w : Width) (a : ℕ) → a < 2 ^ hbits w → to_z w (2 ^ bits w - 1 - a) ≡ negsuc a
not-pos w a h = ap (to_z w) (sym (one_by_one (2 ^ bits w) a)) ∙ to_z-neg w a h

not_neg : (w : Width) (a : ℕ) → a < 2 ^ hbits w → to_z w (2 ^ bits w - 1 - (2 ^ bits w - suc a)) ≡ pos a
not_neg w a h = ap (to_z w) (go (half_full w h)) ∙ to_z_pos w h
  where
    go : a < 2 ^ bits w → 2 ^ bits w - 1 - (2 ^ bits w - suc a) ≡ a
    go l = omega arith

pub not_is : (w : Width) {z : ℤ} → SFits w z → to_z w (2 ^ bits w - 1 - of_z w z) ≡ neg_ℤ (z +ℤ pos 1)
not_is w {z = pos n} f = not-pos w n f.sfits ∙ sym (ap (λ (k : ℕ). neg_ℤ (pos k)) (add-one n))
not_is w {z = negsuc n} f = not_neg w n f.sfits ∙ sym (ap neg_ℤ (+ℤ_one (negsuc n)) ∙ neg_ℤ-suc_ℤ (negsuc n))

-- bits below the sign's are a number that is not negative, whose cast to unsigned keeps them
abbrev pub Unsigned : Width → ℕ → Type 0
Unsigned w m = (T (non_neg (to_z w m)) × Fits w (nat_abs (to_z w m))) × (nat_abs (to_z w m) ≡ m)

unsigned : (w : Width) {m : ℕ} → m < 2 ^ hbits w → Unsigned w m
unsigned w h = rw (to_z_pos w h) ((tt, record { fits = half_full w h }), refl)

pub plain : (w : Width) {z : ℤ} → SFits w z → le_z (pos 0) (held w z) ≡ true → Unsigned w (of_z w z)
plain w {z = pos n} f t = unsigned w f.sfits
plain w {z = negsuc n} f t = absurd (false≢true (rw (to_z-of_z f) at t))

pub turned-over : (w : Width) {z : ℤ} → SFits w z → le_z (pos 0) (held w z) ≡ false → Unsigned w (2 ^ bits w - 1 - of_z w z)
turned-over w {z = pos n} f t = absurd (true≢false (sym (leb-zero n) ∙ (rw (to_z-of_z f) at t)))
turned-over w {z = negsuc n} f t = unsigned w (omega (arith, half_full w f.sfits))

-- ---- tests of bits are tests of the integers

pub zero_test : (w : Width) {z : ℤ} → SFits w z → eqb (of_z w z) 0 ≡ is_zero z
zero_test w {z = pos n} f = refl
zero_test w {z = negsuc n} f = ne_eqb (2 ^ bits w - suc n) 0 (λ (e : 2 ^ bits w - suc n ≡ 0). omega (arith, pow-bits w))

both_ways : (m n a b : ℕ) → (m ≡ n → a ≡ b) → (a ≡ b → m ≡ n) → eqb m n ≡ (leb a b && leb b a)
both_ways m n a b p q = go (leb a b) refl (leb b a) refl
  where
    go : (s : Bool) → leb a b ≡ s → (t : Bool) → leb b a ≡ t → eqb m n ≡ (s && t)
    go true h true k = eq-eqb m n (q (le_antisymm (leb-true a b h) (leb-true b a k)))
    go true h false k = ne_eqb m n (λ (i : m ≡ n). omega (arith, leb-false b a k, p i))
    go false h t k = ne_eqb m n (λ (i : m ≡ n). omega (arith, leb-false a b h, p i))

pub equal-test : (w : Width) {x y : ℤ} → SFits w x → SFits w y → eqb (of_z w x) (of_z w y) ≡ eq_z x y
equal-test w {x = pos a} {y = pos b} f g = both_ways a b a b (λ i. i) (λ i. i)
equal-test w {x = pos a} {y = negsuc b} f g = ne_eqb a (2 ^ bits w - suc b) (λ (e : a ≡ 2 ^ bits w - suc b). omega (arith, pow-bits w))
equal-test w {x = negsuc a} {y = pos b} f g = ne_eqb (2 ^ bits w - suc a) b (λ (e : 2 ^ bits w - suc a ≡ b). omega (arith, pow-bits w))
equal-test w {x = negsuc a} {y = negsuc b} f g =
    both_ways (2 ^ bits w - suc a) (2 ^ bits w - suc b) b a
    (λ (e : 2 ^ bits w - suc a ≡ 2 ^ bits w - suc b). omega (arith, pow-bits w))
    (λ (e : b ≡ a). ap (λ (n : ℕ). 2 ^ bits w - suc n) (sym e))

-- ---- quotients, and ends of a range

-- no quotient but one by -1 is further from 0 than the dividend
mag-neg : (q : ℕ) {a : ℕ} → q ≤ suc a → mag (neg_ℤ (pos q)) ≤ a
mag-neg zero h = omega arith
mag-neg (suc q) h = omega arith

pub mag-quot : (a b : ℤ) → (b ≡ negsuc 0 → ⊥) → mag (quot_z a b) ≤ mag a
mag-quot (pos a) (pos b) n = div-le_self a b
mag-quot (pos a) (negsuc b) n = mag-neg (a / suc b) (le_trans (div-le_self a (suc b)) (le-suc a))
mag-quot (negsuc a) (pos b) n = mag-neg (suc a / b) (div-le_self (suc a) b)
mag-quot (negsuc a) (negsuc zero) n = absurd (n refl)
mag-quot (negsuc a) (negsuc (suc b)) n = le_of_suc-le-suc (div-lt_self (zero-lt-suc a) (omega arith))

-- z, or the end of the range of h bits and a sign that is nearest to it
abbrev pub saturated : ℕ → ℤ → ℤ
saturated h (pos n) = pos (min n (2 ^ h - 1))
saturated h (negsuc n) = negsuc (min n (2 ^ h - 1))

module _ (h : ℕ) where
  pub at_high : (z : ℤ) → lt_z (pos (2 ^ h - 1)) z ≡ true → pos (2 ^ h - 1) ≡ saturated h z
  at_high (pos n) t = ap pos (sym (min-eq_right (le_of_lt (ltb-true (2 ^ h - 1) n t))))
  at_high (negsuc n) t = absurd (false≢true t)

  pub at_low : (z : ℤ) → lt_z z (negsuc (2 ^ h - 1)) ≡ true → negsuc (2 ^ h - 1) ≡ saturated h z
  at_low (pos n) t = absurd (false≢true t)
  at_low (negsuc n) t = ap negsuc (sym (min-eq_right (le_of_lt (ltb-true (2 ^ h - 1) n t))))

  pub inside : (z : ℤ) → lt_z (pos (2 ^ h - 1)) z ≡ false → lt_z z (negsuc (2 ^ h - 1)) ≡ false → (mag z < 2 ^ h) × (z ≡ saturated h z)
  inside (pos n) t u = let l = ltb-false (2 ^ h - 1) n t in (lt_of_le_ones h l, ap pos (sym (min-eq_left l)))
  inside (negsuc n) t u = let l = ltb-false (2 ^ h - 1) n u in (lt_of_le_ones h l, ap negsuc (sym (min-eq_left l)))

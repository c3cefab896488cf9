-- Laws of i64: what the methods that wrap leave of sums, differences, products, negations and quotients is what the definitions leave.
use Rattle.std.proofs.Common.{◌≡◌, ℕ, zero, suc, ◌-◌, ◌<◌, ◌≤◌, ℤ, pos, negsuc, ◌+ℤ◌, ◌*ℤ◌, neg_ℤ, sym, refl, ap, ◌∙◌, div-le_self, mod-eq_of_lt, arith, to_z-of_z, w64, SFits}
use Rattle.std.specs.Prelude.{unsigned_abs}
use Rattle.std.specs.Int.{int_wrap, int_wrapping_add, int_wrapping_sub, int_wrapping_mul, int_wrapping_neg, int_wrapping_div}
use Rattle.std.proofs.lemmas.Int.{wrapping_add_is, wrapping_sub_is, wrapping_mul_is, wrapping_neg_is}
use lib.Signed.{quot_z}
use Rattle.semantics.specs.Tree.{ConstVal}
use Rattle.semantics.specs.Fold.{Result, bits64, signed64, wrap, int_ok}
use Rattle.ints.proofs.Widths.{to_z-is, held}

wrap-is : (z : ℤ) → int_wrap w64 z ≡ wrap z
unfolding int_wrap wrap
wrap-is (pos n) = to_z-is w64 (bits64 (pos n))
wrap-is (negsuc n) = to_z-is w64 (bits64 (negsuc n))

pub wrapped_negation : {a : ℤ} → SFits w64 a → int_wrapping_neg w64 a ≡ wrap (neg_ℤ a)
wrapped_negation {a} f = wrapping_neg_is w64 a f ∙ wrap-is (neg_ℤ a)

module _ {a b : ℤ} (f : SFits w64 a) (g : SFits w64 b) where
  pub wrapped_sum : int_wrapping_add w64 a b ≡ wrap (a +ℤ b)
  wrapped_sum = wrapping_add_is w64 a b f g ∙ wrap-is (a +ℤ b)

  pub wrapped_difference : int_wrapping_sub w64 a b ≡ wrap (a +ℤ neg_ℤ b)
  wrapped_difference = wrapping_sub_is w64 a b f g ∙ wrap-is (a +ℤ neg_ℤ b)

  pub wrapped_product : int_wrapping_mul w64 a b ≡ wrap (a *ℤ b)
  wrapped_product = wrapping_mul_is w64 a b f g ∙ wrap-is (a *ℤ b)

-- ---- quotients: none is larger than its dividend, so that of all only 2 ^ 63 wraps

abbrev two_to64 : ℕ
two_to64 = 18446744073709551616

size-neg : (n : ℕ) → unsigned_abs (neg_ℤ (pos n)) ≡ n
size-neg zero = refl
size-neg (suc n) = refl

size-quot : (a b : ℤ) → unsigned_abs (quot_z a b) ≤ unsigned_abs a
size-quot (pos a) (pos b) = div-le_self a b
size-quot (pos a) (negsuc b) = rw size-neg (div-le_self a (suc b))
size-quot (negsuc a) (pos b) = rw size-neg (div-le_self (suc a) b)
size-quot (negsuc a) (negsuc b) = div-le_self (suc a) (suc b)

size : {a : ℤ} → SFits w64 a → unsigned_abs a < two_to64
size {a = pos n} f = omega (arith, f.sfits)
size {a = negsuc n} f = omega (arith, f.sfits)

kept : (z : ℤ) → unsigned_abs z < two_to64 → held w64 z ≡ wrap z
unfolding wrap
kept (pos n) h = to_z-is w64 n ∙ ap signed64 (sym (mod-eq_of_lt h))
kept (negsuc n) h = to_z-is w64 (two_to64 - suc n) ∙ ap signed64 (omega arith)

pub wrapped_quotient : {a : ℤ} (b : ℤ) → SFits w64 a → int_wrapping_div w64 a b ≡ wrap (quot_z a b)
wrapped_quotient {a} b f = kept (quot_z a b) (omega (arith, size-quot a b, size f))

-- what `div` needs
pub ruleset dividing = (to_z-of_z, wrapped_quotient)

-- ---- what fits

pub wrap-same : {z : ℤ} → SFits w64 z → wrap z ≡ z
wrap-same {z} f = sym (kept z (size f)) ∙ to_z-of_z f

-- what a function returns, where its result is an integer
pub outcome : {r : ℤ} {x : Result ConstVal} → SFits w64 r → int_ok r ≡ x → int_ok (held w64 r) ≡ x
outcome f e = ap int_ok (to_z-of_z f) ∙ e

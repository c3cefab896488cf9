-- Bits come back as they were, but for a NaN's.
use Rattle.std.proofs.Common.{◌≡◌, ℕ, ◌^◌, ◌<◌, Bool, true, false, cond, not, T, sym, refl, ap, ◌∙◌, subst}
use mathlib.Core.Bool.{false≢true}
use lib.Ieee.{Float, nan, inf, fin, binary64, is_nan, nan_bits, of_bits, to_bits}
use lib.Ieee.Bits.{to_bits-of_bits, nan_bits_is}

nan-bits : to_bits binary64 nan ≡ 0x7ff8_0000_0000_0000
unfolding to_bits
nan-bits = refl

is-nan : (x : Float) → is_nan x ≡ true → nan ≡ x
unfolding is_nan
is-nan nan h = refl
is-nan (inf s) h = absurd (false≢true h)
is-nan (fin s m e) h = absurd (false≢true h)

pub bits_back : (b : ℕ) → b < 2 ^ 64 → to_bits binary64 (of_bits binary64 b) ≡ cond (nan_bits binary64 b) 0x7ff8_0000_0000_0000 b
bits_back b h = go (nan_bits binary64 b) refl
  where
    go : (t : Bool) → nan_bits binary64 b ≡ t → to_bits binary64 (of_bits binary64 b) ≡ cond t 0x7ff8_0000_0000_0000 b
    go true e = ap (to_bits binary64) (sym (is-nan (of_bits binary64 b) (sym (nan_bits_is binary64 b) ∙ e))) ∙ nan-bits
    go false e = to_bits-of_bits binary64 b h (subst (λ (t : Bool). T (not t)) (sym (sym (nan_bits_is binary64 b) ∙ e)) tt)

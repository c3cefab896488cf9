-- Laws of hexadecimal digits, and of a number's bytes.
use Prim.Native.Nat.{ℕ, zero, suc, ◌+◌, ◌*◌, ◌^◌}
use mathlib.Core.Path.{◌≡◌, refl, ap, ◌∙◌}
use mathlib.Core.List.{[], ◌∷◌, ◌++◌}
use native.Mathlib.Nat.{pow-suc}
use native.Mathlib.Omega.{arith}
use lib.ListN.{length}
use lib.Pow.{pow-add}
use Rattle.semantics.specs.Text.{Bytes, hex_of, big_endian}

pub hex-append : (s t : Bytes) → hex_of (s ++ t) ≡ hex_of s ++ hex_of t
unfolding hex_of
hex-append [] t = refl
hex-append (b ∷ s) t = rw (hex-append s t)

-- ---- a number's bytes, the highest first

pub big-length : (k n : ℕ) → length (big_endian k n) ≡ k
unfolding big_endian
big-length zero n = refl
big-length (suc k) n = ap suc (big-length k n)

pub power : (k : ℕ) → 256 ^ k ≡ 2 ^ (8 * k)
power zero = refl
power (suc k) =
    let q : 8 * suc k ≡ 8 * k + 8 = omega arith in
    pow-suc 256 k ∙ rw (power k, q, pow-add 2 (8 * k) 8)

-- Pointer maps: which byte and which bit tell whether a word is marked.
use Prim.Native.Nat.{ℕ, zero, suc, ◌+◌, ◌-◌, ◌*◌, ◌/◌, ◌%◌, ◌^◌, ◌≤◌, ◌<◌}
use native.Mathlib.Nat.{pow-succ', div-div-eq-div-mul}
use native.Mathlib.Omega.{arith}
use mathlib.Core.Path.{◌≡◌, refl, sym, ap, ◌∙◌}
use mathlib.Core.Bool.{Bool, true, false, cond}
use mathlib.Core.List.{List, [], ◌∷◌}
use lib.ListN.{get_or}
use lib.IntN.{ℤ, pos, negsuc}
use lib.Dec.{leb, eqb}
use borrow.Author.Tests.{leb-true, ne_eqb}
use Rattle.laws.proofs.Tests.{and-unless}
use Rattle.semantics.specs.Layout.{marks, marked, map_bits, map_bytes, map_length, pointer_map}
use Rattle.semantics.specs.Demand.{bit_at}

-- ---- no word is marked past the size

mark-past : (size w : ℕ) (z : ℤ) → size < w * 4 + 4 → marks size w z ≡ false
mark-past size w (negsuc n) h = refl
mark-past size w (pos off) h = and-unless (leb (off + 4) size) (eqb (off / 4) w) (λ e. ne_eqb (off / 4) w (omega (arith, leb-true)))

marked-past : (size w : ℕ) (zs : List ℤ) → size < w * 4 + 4 → marked size zs w ≡ false
marked-past size w [] h = refl
marked-past size w (z ∷ zs) h = rw (mark-past size w z h) (marked-past size w zs h)

-- ---- bit w of a map tells whether word w is marked

pub bit_le : (b : Bool) → cond b 1 0 ≤ 1
bit_le true = omega arith
bit_le false = omega arith

double : (b : Bool) (d : ℕ) → cond b (2 ^ suc d) 0 ≡ 2 * cond b (2 ^ d) 0
double true d = pow-succ' 2 d
double false d = refl

module _ (size : ℕ) (zs : List ℤ) where
  abbrev pub bits : ℕ → ℕ → ℕ
  bits d w = map_bits size zs d w

  abbrev pub bit : ℕ → ℕ
  bit w = cond (marked size zs w) 1 0

  bits-past : (d w : ℕ) → size < w * 4 + 4 → bits d w ≡ 0
  unfolding map_bits
  bits-past zero w h = refl
  bits-past (suc d) w h = rw (marked-past size w zs h, bits-past d (suc w) (omega arith))

  -- byte j has the 8 words from 8 * j on: behind the last byte none is marked
  bytes-at : (n w j : ℕ) → size < (w + 8 * n) * 4 + 4 → get_or (map_bytes size zs n w) j 0 ≡ bits 8 (w + 8 * j)
  bytes-at zero w j h = sym (bits-past 8 (w + 8 * j) (omega arith))
  bytes-at (suc n) w zero h = let e : w ≡ w + 8 * 0 = omega arith in ap (bits 8) e
  bytes-at (suc n) w (suc j) h = let e : w + 8 + 8 * j ≡ w + 8 * suc j = omega arith in bytes-at n (w + 8) j (omega arith) ∙ ap (bits 8) e

  pub byte_at : (j : ℕ) → get_or (pointer_map size zs) j 0 ≡ bits 8 (8 * j)
  unfolding pointer_map map_length
  byte_at j = let e : 0 + 8 * j ≡ 8 * j = omega arith in bytes-at (map_length size) 0 j (omega arith) ∙ ap (bits 8) e

  -- the last word is the lowest bit
  pub last_bit : (d w v : ℕ) → v ≡ w + d → bits (suc d) w ≡ 2 * bits d w + bit v
  unfolding map_bits
  last_bit zero w v e = let f : v ≡ w = omega arith in omega (arith, ap bit f)
  last_bit (suc d) w v e = omega (arith, last_bit d (suc w) v (omega arith), double (marked size zs w) d)

  pub bits-lt : (d w : ℕ) → bits d w < 2 ^ d
  unfolding map_bits
  bits-lt zero w = omega arith
  bits-lt (suc d) w = omega (arith, last_bit d w (w + d) refl, bit_le (marked size zs (w + d)), bits-lt d w, pow-succ' 2 d)

  half : (d w : ℕ) → bits (suc d) w / 2 ≡ bits d w
  half d w = omega (arith, last_bit d w (w + d) refl, bit_le (marked size zs (w + d)))

  -- and bit k is the word k words before the last
  nth-bit : (n k w v : ℕ) → v + k ≡ w + n → k ≤ n → bits (suc n) w / 2 ^ k % 2 ≡ bit v
  nth-bit n zero w v e h = omega (arith, last_bit n w v (omega arith), bit_le (marked size zs v))
  nth-bit zero (suc k) w v e h = absurd (omega arith)
  nth-bit (suc n) (suc k) w v e h =
      rw (pow-succ' 2 k, ← div-div-eq-div-mul (bits (suc (suc n)) w) 2 (2 ^ k), half (suc n) w) (nth-bit n k w v (omega arith) (omega arith))

  pub map-bits : (w : ℕ) → bit_at (pointer_map size zs) w ≡ bit w
  map-bits w = rw (byte_at (w / 8)) (nth-bit 7 (7 - w % 8) (8 * (w / 8)) w (omega arith) (omega arith))

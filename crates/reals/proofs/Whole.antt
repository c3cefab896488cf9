-- A real to a whole number: the tests that `to_i64` makes, and the smaller range that `to_i32` cuts the result to.
use Rattle.std.proofs.Common.{◌≡◌, ℕ, zero, suc, ◌+◌, ◌-◌, ◌*◌, ◌/◌, ◌^◌, ◌<◌, ◌≤◌, min, Bool, true, false, cond, not, ◌&&◌, ◌||◌, T, eqb, ltb, ℤ, pos, negsuc, neg_ℤ, sym, refl, ap, ◌∙◌, subst, inl, inr, le_trans, le_of_eq, lt_of_le_of_lt, le_of_lt, lt_irrefl, le-div_iff_mul-le, arith, T_not, pow_mono, to_z-of_z, w32, w64, SFits}
use native.Mathlib.Nat.{zero-min, min-eq_right}
use lib.Pow.{suc_ones}
use lib.Ieee.{Float, nan, inf, fin, binary64, up, down, lt, le, eq, neg, of_bits, to_signed}
use lib.Ieee.Fits.{down_pos}
use lib.Signed.{lt_z}
use mir.Facts.{or_yes, or_no, and_yes, yes_and, ltb_yes, ltb_no, eqb_yes, yes_eqb, yes_ltb}
use Rattle.semantics.specs.Fold.{to_whole}
use Rattle.ints.proofs.Widths.{held, saturated, at_high, at_low, inside}

-- ---- against 2 ^ 63 and -2 ^ 63

abbrev high : Float
high = fin false 1 (pos 63)

abbrev least : Float
least = fin true 1 (pos 63)

-- a test `a < b or c = e`, passed and failed
passed : (a b c e : ℕ) (t : Bool) → (c ≡ e → a ≤ b) → T (ltb a b || (eqb c e && t)) → a ≤ b
passed a b c e t f h = elim (or_yes (ltb a b) (eqb c e && t) h) [ inl u ↦ le_of_lt (ltb_yes u) | inr u ↦ f (eqb_yes (and_yes (eqb c e) t u).0) ]

failed : (a b c e : ℕ) → (a ≡ b → c ≡ e) → T (not (ltb a b || (eqb c e && true))) → b < a
failed a b c e f h =
    let k = or_no (ltb a b) (eqb c e && true) h in
    go (ltb_no k.0) (λ (i : a ≡ b). T_not (eqb c e && true) k.1 (yes_and (eqb c e) true (yes_eqb (f i)) tt))
  where
    go : b ≤ a → (a ≡ b → ⊥) → b < a
    go u v = omega arith

-- a magnitude n / d, against 2 ^ 63
abbrev edge : ℕ → ℕ
edge d = 1 * 9223372036854775808 * d

capped : (n d k : ℕ) → 0 < d → k ≤ 9223372036854775808 → edge d ≤ n * 1 → k ≡ min (n / d) k
capped n d k D l h = sym (min-eq_right (le_trans l ((le-div_iff_mul-le D).1 (omega arith))))

above-edge : (x : Float) → T (le high x) → pos 9223372036854775807 ≡ to_whole 63 x
unfolding le lt eq to_whole
above-edge nan t = absurd t
above-edge (inf true) t = absurd t
above-edge (inf false) t = refl
above-edge (fin true m e) t =
    let d = down e in
    let l = down_pos e in
    let z : edge d ≡ 0 = eqb_yes (and_yes (eqb (edge d) (m * up e * 1)) (eqb (edge d) 0) t).1 in
    absurd (omega arith)
above-edge (fin false m e) t =
    let n = m * up e in
    let d = down e in
    ap pos (capped n d 9223372036854775807 (down_pos e) (omega arith) (passed (edge d) (n * 1) (edge d) (n * 1) true le_of_eq t))

under-least : (x : Float) → T (lt x least) → negsuc 9223372036854775807 ≡ to_whole 63 x
unfolding lt to_whole
under-least nan t = absurd t
under-least (inf true) t = refl
under-least (inf false) t = absurd t
under-least (fin true m e) t = ap (λ (k : ℕ). neg_ℤ (pos k)) (capped (m * up e) (down e) 9223372036854775808 (down_pos e) (omega arith) (le_of_lt (ltb_yes t)))
under-least (fin false m e) t = absurd t

-- a test that fails both ways fails at a NaN only
neither : (x : Float) → T (not (le high x)) → T (not (le least x)) → T (not (lt x least)) → pos 0 ≡ to_whole 63 x
unfolding le lt eq to_whole
neither nan s t u = refl
neither (inf true) s t u = absurd u
neither (inf false) s t u = absurd s
neither (fin true m e) s t u =
    let n = m * up e in
    let d = down e in
    absurd (lt_irrefl (n * 1) (lt_of_le_of_lt (ltb_no u) (failed (n * 1) (edge d) (edge d) (n * 1) sym t)))
neither (fin false m e) s t u =
    let n = m * up e in
    let d = down e in
    absurd (T_not (ltb 0 (edge d + n * 1)) (or_no (ltb 0 (edge d + n * 1)) _ t).0 (yes_ltb (go n d (down_pos e))))
  where
    go : (n d : ℕ) → 0 < d → 0 < edge d + n * 1
    go n d l = omega arith

under-high : (x : Float) → T (not (le high x)) → T (le least x) → T (lt x high)
unfolding le lt eq
under-high nan s t = absurd t
under-high (inf true) s t = tt
under-high (inf false) s t = absurd s
under-high (fin true m e) s t = yes_ltb (go (m * up e) (down e) (down_pos e))
  where
    go : (n d : ℕ) → 0 < d → 0 < n * 1 + edge d
    go n d l = omega arith
under-high (fin false m e) s t =
    let n = m * up e in
    let d = down e in
    yes_ltb (failed (edge d) (n * 1) (edge d) (n * 1) (λ i. i) s)

-- ---- what `to_i64` returns: its literals are bit patterns

abbrev edge-bits : ℕ
edge-bits = 0x43e0_0000_0000_0000

high_is : of_bits binary64 edge-bits ≡ high
unfolding of_bits
high_is = refl

least-is : neg (of_bits binary64 edge-bits) ≡ least
unfolding of_bits neg
least-is = refl

yes : {b : Bool} → b ≡ true → T b
yes h = subst T (sym h) tt

no : {b : Bool} → b ≡ false → T (not b)
no h = subst (λ (a : Bool). T (not a)) (sym h) tt

module _ (x : Float) where
  pub whole_above : le (of_bits binary64 edge-bits) x ≡ true → pos 9223372036854775807 ≡ to_whole 63 x
  whole_above h = above-edge x (yes (rw high_is at h))

  pub whole_below : lt x (neg (of_bits binary64 edge-bits)) ≡ true → negsuc 9223372036854775807 ≡ to_whole 63 x
  whole_below h = under-least x (yes (rw least-is at h))

  pub whole-of-nan : le (of_bits binary64 edge-bits) x ≡ false → le (neg (of_bits binary64 edge-bits)) x ≡ false → lt x (neg (of_bits binary64 edge-bits)) ≡ false → pos 0 ≡ to_whole 63 x
  whole-of-nan h k l = neither x (no (rw high_is at h)) (no (rw least-is at k)) (no (rw least-is at l))

  pub in-range : le (of_bits binary64 edge-bits) x ≡ false → le (neg (of_bits binary64 edge-bits)) x ≡ true → T (le least x) × T (lt x high)
  in-range h k = let t = yes (rw least-is at k) in (t, under-high x (no (rw high_is at h)) t)

  pub truncated : {r : ℤ} → SFits w64 r → r ≡ to_signed 63 x → held w64 r ≡ to_whole 63 x
  unfolding to_whole
  truncated f e = to_z-of_z f ∙ e

-- ---- the range of any h bits, cut from that of any k bits that are as many or more
module _ (h k : ℕ) (l : h ≤ k) where
  upper : 2 ^ h - 1 ≤ 2 ^ k - 1
  upper = let p = pow_mono l in omega arith

  cut : (q a b : ℕ) → b ≤ a → min (min q a) b ≡ min q b
  cut q a b g = omega arith

  negative : (q : ℕ) → saturated h (neg_ℤ (pos q)) ≡ neg_ℤ (pos (min q (2 ^ h)))
  negative zero = ap pos (zero-min (2 ^ h - 1)) ∙ sym (ap (λ (j : ℕ). neg_ℤ (pos j)) (zero-min (2 ^ h)))
  negative (suc q) = ap (λ (j : ℕ). neg_ℤ (pos j)) (go (2 ^ h - 1) (suc_ones h))
    where
      go : (m : ℕ) {p : ℕ} → suc m ≡ p → suc (min q m) ≡ min (suc q) p
      go m e = omega arith

  -- a sign and a magnitude q, saturated at both widths
  both : (s : Bool) (q : ℕ) → saturated h (cond s (neg_ℤ (pos (min q (2 ^ k)))) (pos (min q (2 ^ k - 1)))) ≡ cond s (neg_ℤ (pos (min q (2 ^ h)))) (pos (min q (2 ^ h - 1)))
  both true q = negative (min q (2 ^ k)) ∙ ap (λ (j : ℕ). neg_ℤ (pos j)) (cut q (2 ^ k) (2 ^ h) (pow_mono l))
  both false q = ap pos (cut q (2 ^ k - 1) (2 ^ h - 1) upper)

  pub narrowed : (x : Float) → saturated h (to_whole k x) ≡ to_whole h x
  unfolding to_whole
  narrowed nan = ap pos (zero-min (2 ^ h - 1))
  narrowed (inf true) = negative (2 ^ k) ∙ ap (λ (j : ℕ). neg_ℤ (pos j)) (min-eq_right (pow_mono l))
  narrowed (inf false) = ap pos (min-eq_right upper)
  narrowed (fin s m e) = both s (m * up e / down e)

-- ---- what `to_i32` returns, from the z that `to_i64` gave
module _ (x : Float) {z : ℤ} (f : SFits w64 z) (e : z ≡ to_whole 63 x) where
  cut-to-word : saturated 31 z ≡ to_whole 31 x
  cut-to-word = ap (saturated 31) e ∙ narrowed 31 63 (omega arith) x

  pub narrow-above : lt_z (pos 2147483647) (held w64 z) ≡ true → pos 2147483647 ≡ to_whole 31 x
  narrow-above h = at_high 31 z (rw (to_z-of_z f) at h) ∙ cut-to-word

  pub narrow_below : lt_z (held w64 z) (negsuc 2147483647) ≡ true → negsuc 2147483647 ≡ to_whole 31 x
  narrow_below h = at_low 31 z (rw (to_z-of_z f) at h) ∙ cut-to-word

  pub narrow-inside : lt_z (pos 2147483647) (held w64 z) ≡ false → lt_z (held w64 z) (negsuc 2147483647) ≡ false → SFits w32 (held w64 z) × (held w32 (held w64 z) ≡ to_whole 31 x)
  narrow-inside h k =
      let i = inside 31 z (rw (to_z-of_z f) at h) (rw (to_z-of_z f) at k) in
      let g : SFits w32 z = record { sfits = i.0 } in
      rw (to_z-of_z f) (g, to_z-of_z g ∙ i.1 ∙ cut-to-word)

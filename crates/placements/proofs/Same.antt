-- What is read of bytes that are kept stays the same.
use mathlib.Core.Path.{◌≡◌, refl, sym, ap, ◌∙◌}
use Prim.Native.Nat.{ℕ, ◌+◌, ◌*◌, ◌≤◌, ◌<◌}
use native.Mathlib.Omega.{arith}
use lib.ListN.{length, take, drop, get_or, length-take, length-drop}
use lib.Seq.{get_or-take, get_or-drop, ext_get_or}
use Rattle.semantics.specs.Text.{Bytes}
use Rattle.values.specs.declared.ConstVal.{ConstVal}
use Rattle.values.specs.declared.ConstVal.TheVariants.{Int, Real, Str}
use Rattle.values.specs.Values.{string_in, value_in}
use Rattle.words.specs.Words.{bits_at}
use Rattle.slots.specs.Slots.{slot_of}
use Rattle.checks.specs.Checks.{Kept}
use Rattle.checks.proofs.Kept.{kept_at}
use Rattle.placements.specs.Placements.{slot_at, element_in, Keeps, StringStands}

-- bytes from a up to b are the same
abbrev pub Alike : ℕ → ℕ → Bytes → Bytes → Type 0
Alike a b t u = (j : ℕ) → a ≤ j → j < b → get_or u j 0 ≡ get_or t j 0

module _ (t u : Bytes) (long : length u ≡ length t) where
  pub part_same : (l p : ℕ) → Alike p (p + l) t u → take l (drop p u) ≡ take l (drop p t)
  part_same l p h =
      ext_get_or 0 (take l (drop p u)) (take l (drop p t)) (simp (length-take, length-drop, long) refl)
      (λ i k.
      let m : i < l = omega (arith, length-take l (drop p u)) in
      get_or-take l (drop p u) i 0 m ∙ get_or-drop p u i 0 ∙ h (p + i) (omega arith) (omega arith) ∙ sym (get_or-take l (drop p t) i 0 m ∙ get_or-drop p t i 0))

  slot_same : (a : ℕ) → Alike a (a + 9) t u → slot_of u a ≡ slot_of t a
  unfolding slot_of bits_at
  slot_same a h =
      let p : take 8 (drop (a + 1) u) ≡ take 8 (drop (a + 1) t) = part_same 8 (a + 1) (λ j x y. h j (omega arith) (omega arith)) in
      rw (h a (omega arith) (omega arith), p)

  pub value_same : (top : ℕ) (v : ConstVal) → StringStands top v → Alike 49152 top t u → value_in u v ≡ value_in t v
  unfolding value_in string_in
  value_same top (Int z) s h = refl
  value_same top (Real x) s h = refl
  value_same top (Str p l) s h = rw (part_same l p (λ j x y. h j (omega (arith, s.0)) (omega (arith, s.1))))

  pub slot_kept : (j : ℕ) → Alike (12288 + 16 * j) (12297 + 16 * j) t u → slot_at u j ≡ slot_at t j
  unfolding slot_at
  slot_kept j h = slot_same (12288 + 16 * j) (λ i x y. h i x (omega arith))

  pub element-same : (top j : ℕ) → StringStands top (slot_at t j) → Alike (12288 + 16 * j) (12297 + 16 * j) t u → Alike 49152 top t u → element_in u j ≡ element_in t j
  unfolding element_in
  element-same top j s h k = ap (value_in u) (slot_kept j h) ∙ value_same top (slot_at t j) s k

-- ---- what is kept

pub keeps-all : {a b : ℕ} {t : Bytes} → Keeps a b t t
keeps-all = record { long = refl; below = λ j h. refl; above = λ j h k. refl }

pub keeps_then : {a b : ℕ} {t u v : Bytes} → Keeps a b t u → Keeps a b u v → Keeps a b t v
keeps_then p q = record { long = q.long ∙ p.long; below = λ j h. q.below j h ∙ p.below j h; above = λ j h k. q.above j h k ∙ p.above j h k }

pub keeps-less : {a b c d : ℕ} {t u : Bytes} → a ≤ c → d ≤ b → Keeps a b t u → Keeps c d t u
keeps-less h k p = record { long = p.long; below = p.below; above = λ j x y. p.above j (omega arith) (omega arith) }

pub keeps-kept : {a top : ℕ} {t u : Bytes} → 49152 ≤ top → Kept top t u → Keeps a top t u
keeps-kept h p = record { long = p.long; below = λ j x. kept_at p j (omega arith); above = λ j x y. kept_at p j y }

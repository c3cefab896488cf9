-- Bytes stored over others: those that stay as they were, and those that were stored.
use Prim.Native.Nat.{ℕ, zero, suc, ◌+◌, ◌≤◌, ◌<◌}
use mathlib.Core.Path.{◌≡◌, refl, ◌∙◌}
use mathlib.Core.List.{[], ◌∷◌, ◌++◌, append_assoc}
use native.Mathlib.Omega.{arith}
use lib.ListN.{length, take, drop, get_or, set, length-set}
use lib.Seq.{take-set-le, drop-set-lt, get_or-set_same, get_or-set_other, take_at, drop_at, length-take-le, sets-eq}
use Rattle.semantics.specs.Text.{Bytes}
use Rattle.write.specs.Wrote.{over}

-- ---- the others

pub take-over : (d : Bytes) (a : ℕ) (t : Bytes) (k : ℕ) → k ≤ a → take k (over d a t) ≡ take k d
unfolding over
take-over d a [] k h = refl
take-over d a (x ∷ t) k h = take-over (set d a x) (suc a) t k (omega arith) ∙ take-set-le k d a x h

pub drop-over : (d : Bytes) (a : ℕ) (t : Bytes) (k : ℕ) → a + length t ≤ k → drop k (over d a t) ≡ drop k d
unfolding over
drop-over d a [] k h = refl
drop-over d a (x ∷ t) k h = drop-over (set d a x) (suc a) t k (omega arith) ∙ drop-set-lt k d a x (omega arith)

pub get_d_over : (d : Bytes) (a : ℕ) (t : Bytes) (j : ℕ) → ((k : ℕ) → k < length t → j ≡ a + k → ⊥) → get_or (over d a t) j 0 ≡ get_or d j 0
unfolding over
get_d_over d a [] j p = refl
get_d_over d a (x ∷ t) j p =
    get_d_over (set d a x) (suc a) t j (λ k h e. p (suc k) (omega arith) (omega arith)) ∙ get_or-set_other d a j x 0 (λ e. p 0 (omega arith) (omega arith))

-- ---- those that were stored

pub get_or-stored : (d : Bytes) (a : ℕ) (t : Bytes) (k : ℕ) → k < length t → a + k < length d → get_or (over d a t) (a + k) 0 ≡ get_or t k 0
unfolding over
get_or-stored d a [] k h l = absurd (omega arith)
get_or-stored d a (x ∷ t) zero h l =
    let e : a + 0 ≡ a = omega arith in
    rw e (get_d_over (set d a x) (suc a) t a (λ k m q. omega arith) ∙ get_or-set_same d a x 0 (omega arith))
get_or-stored d a (x ∷ t) (suc k) h l =
    let e : a + suc k ≡ suc a + k = omega arith in
    rw e (get_or-stored (set d a x) (suc a) t k (omega arith) (omega (arith, length-set d a x)))

-- where they fit
module _ (d : Bytes) (a : ℕ) (t : Bytes) (fit : a + length t ≤ length d) where
  pub over-is : over d a t ≡ take a d ++ (t ++ drop (a + length t) d)
  unfolding over
  over-is = sets-eq t d a fit ∙ append_assoc (take a d) t (drop (a + length t) d)

  pub over-there : take (length t) (drop a (over d a t)) ≡ t
  over-there =
      rw (over-is, drop_at (take a d) (t ++ drop (a + length t) d) a (length-take-le a d (omega arith))) (take_at t (drop (a + length t) d) (length t) refl)

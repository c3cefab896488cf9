-- Alignments and sizes of globals are 4 or 8, and where an aligned offset lies.
use Prim.Native.Nat.{ℕ, ◌%◌, ◌≤◌, max}
use native.Mathlib.Omega.{arith}
use mathlib.Core.Path.{◌≡◌}
use Rattle.semantics.specs.Tree.{Ty, Tys}
use Rattle.semantics.specs.Tree.Basic.{int, byte, big, real, string}
use Rattle.semantics.specs.Tree.Ty.{basic, ptr, array, tuple}
use Rattle.semantics.specs.Tree.Tys.{no_tys, and_ty}
use Rattle.semantics.specs.Layout.{align_up, align_of, align_of_all}
use Rattle.semantics.specs.Global.{global_size}

-- what holds of 4 and of 8 holds of each alignment
mutual
  pub four-or-eight : (P : ℕ → Type 0) → P 4 → P 8 → (t : Ty) → P (align_of t)
  four-or-eight P four eight (basic int) = four
  four-or-eight P four eight (basic byte) = four
  four-or-eight P four eight (basic big) = eight
  four-or-eight P four eight (basic real) = eight
  four-or-eight P four eight (basic string) = four
  four-or-eight P four eight ptr = four
  four-or-eight P four eight (array t) = four
  four-or-eight P four eight (tuple ts) = all-four-or-eight P four eight ts

  all-four-or-eight : (P : ℕ → Type 0) → P 4 → P 8 → (ts : Tys) → P (align_of_all ts)
  all-four-or-eight P four eight no_tys = four
  all-four-or-eight P four eight (and_ty t ts) =
      four-or-eight (λ a. P (max a (align_of_all ts))) (all-four-or-eight (λ a. P (max 4 a)) four eight ts) (all-four-or-eight (λ a. P (max 8 a)) eight eight ts) t

-- and of each global's size
pub global-size : (P : ℕ → Type 0) → P 4 → P 8 → (t : Ty) → P (global_size t)
global-size P four eight (basic b) = four-or-eight P four eight (basic b)
global-size P four eight ptr = four
global-size P four eight (array t) = four
global-size P four eight (tuple ts) = four

-- an aligned offset is a word's, and lies between the offset and the next multiple of 8
pub aligned : (t : Ty) (off : ℕ) → (off ≤ align_up (align_of t) off) × (align_up (align_of t) off % 4 ≡ 0) × (align_up (align_of t) off ≤ align_up 8 off)
aligned t off = four-or-eight (λ a. (off ≤ align_up a off) × (align_up a off % 4 ≡ 0) × (align_up a off ≤ align_up 8 off)) (omega arith) (omega arith) t

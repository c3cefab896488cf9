-- A range of the table is filled from its low end on.
use mathlib.Core.Path.{◌≡◌, refl, ◌∙◌}
use mathlib.Core.Bool.{Bool, true, false, cond, ◌&&◌}
use mathlib.Core.Logic.{◌⊎◌, inl, inr}
use Prim.Native.Nat.{ℕ, ◌+◌, ◌≤◌, ◌<◌, min, max}
use native.Mathlib.Omega.{arith}
use lib.Dec.{leb, ltb, eqb}
use lib.ListN.{length, get_or, set, length-set}
use lib.Seq.{get_or-set_same, get_or-set_other}
use borrow.Author.Tests.{leb-true, ltb-true, ltb-false, lt-ltb, le-ltb, le-leb, eqb-true, eqb-false}
use Rattle.semantics.specs.Text.{Bytes}
use Rattle.placements.specs.Placements.{placement_at}

-- indices from l on and below i are filled
pub record Setting (t : Bytes) (l h e : ℕ) (u : Bytes) (i : ℕ) : Type 0 where
  pub long : length u ≡ length t
  pub from : min l 1024 ≤ i
  pub to : i ≤ max (min l 1024) (min (h + 1) 1024)
  pub at : (j : ℕ) → j < 1024 → placement_at u j ≡ cond (leb l j && ltb j i) e (placement_at t j)
  pub others : (j : ℕ) → (j < 11264) ⊎ (12288 ≤ j) → get_or u j 0 ≡ get_or t j 0

-- a test that holds only where another fails
neither : (l i j : ℕ) → (l ≤ j → i ≤ j) → leb l j && ltb j i ≡ false
neither l i j h = go (leb l j) refl
  where
    go : (t : Bool) → leb l j ≡ t → t && ltb j i ≡ false
    go true e = le-ltb j i (h (leb-true l j e))
    go false e = refl

module _ {t : Bytes} {l h e : ℕ} {u : Bytes} {i : ℕ} (p : Setting t l h e u i) where
  pub setting-next : i < min (h + 1) 1024 → 62464 ≤ length t → Setting t l h e (set u (11264 + i) e) (i + 1)
  unfolding placement_at
  setting-next m room = record {
    long = length-set u (11264 + i) e ∙ p.long;
    from = omega (arith, p.from);
    to = omega arith;
    at = λ j k. go j k (eqb j i) refl;
    others = λ j k. get_or-set_other u (11264 + i) j e 0 (λ q. off k q) ∙ p.others j k;
  }
    where
      off : {j : ℕ} → (j < 11264) ⊎ (12288 ≤ j) → j ≡ 11264 + i → ⊥
      off (inl k) q = omega arith
      off (inr k) q = omega arith

      earlier : (j : ℕ) → (j ≡ i → ⊥) → ltb j (i + 1) ≡ ltb j i
      earlier j n = here (ltb j i) refl
        where
          here : (b : Bool) → ltb j i ≡ b → ltb j (i + 1) ≡ b
          here true q = let k : j < i = ltb-true j i q in lt-ltb j (i + 1) (omega arith)
          here false q = let k : i ≤ j = ltb-false j i q in le-ltb j (i + 1) (omega (arith, n))

      go : (j : ℕ) → j < 1024 → (b : Bool) → eqb j i ≡ b → get_or (set u (11264 + i) e) (11264 + j) 0 ≡ cond (leb l j && ltb j (i + 1)) e (get_or t (11264 + j) 0)
      go j k true q =
          let x : j ≡ i = eqb-true j i q in
          let y : min l 1024 ≤ i = p.from in
          rw (x, get_or-set_same u (11264 + i) e 0 (omega (arith, p.long)), le-leb l i (omega arith), lt-ltb i (i + 1) (omega arith))
      go j k false q = rw (earlier j (eqb-false j i q)) (get_or-set_other u (11264 + i) (11264 + j) e 0 (λ x. eqb-false j i q (omega arith)) ∙ p.at j k)

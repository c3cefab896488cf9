-- Laws of the iota counter.
use mathlib.Core.Path.{◌≡◌, refl}
use mathlib.Core.Bool.{Bool, true, false, cond}
use mathlib.Core.Logic.{◌⊎◌, inl, inr}
use Prim.Native.Nat.{ℕ, suc, ◌+◌, ◌≤◌, ◌<◌, min}
use native.Mathlib.Omega.{arith}
use native.Mathlib.Numerals.{add-one}
use lib.Dec.{leb}
use borrow.Author.Tests.{eq-eqb, ne_eqb, leb-true, leb-false, le-leb}
use Rattle.semantics.specs.Const.{same_group, iota_at, iota_next}
use Rattle.iota.specs.declared.IotaCounter.{IotaCounter}
use Rattle.iota.specs.Iota.{counter_of, capped_count, moved_of, stepped_of}

-- ---- the greatest count

pub capped_is : (v : ℕ) → min v 4294967295 ≡ capped_count v
unfolding capped_count
capped_is v = go (leb v 4294967295) refl
  where
    go : (b : Bool) → leb v 4294967295 ≡ b → min v 4294967295 ≡ cond b v 4294967295
    go true q = let h = leb-true v 4294967295 q in omega arith
    go false q = let h = leb-false v 4294967295 q in omega arith

capped_small : (v : ℕ) → v ≤ 4294967295 → v ≡ capped_count v
unfolding capped_count
capped_small v h = rw (le-leb v 4294967295 h)

capped-least : (v : ℕ) → capped_count v ≤ v
unfolding capped_count
capped-least v = go (leb v 4294967295) refl
  where
    go : (b : Bool) → leb v 4294967295 ≡ b → cond b v 4294967295 ≤ v
    go true q = omega arith
    go false q = let h : 4294967295 < v = leb-false v 4294967295 q in omega (arith, h)

at_most : (b : Bool) (v : ℕ) → cond b v 0 ≤ v
at_most true v = omega arith
at_most false v = omega arith

module _ (c : IotaCounter) (line col : ℕ) where
  -- ---- the value

  pub value_on : c.started ≡ true → line ≡ c.line → col ≡ c.col → c.value ≡ iota_at line col (counter_of c)
  unfolding counter_of
  value_on h p q = rw (h, eq-eqb line c.line p, eq-eqb col c.col q)

  -- the first constant, or one at another LINE or COL
  pub value_anew : (c.started ≡ true) × (line ≡ c.line) × (col ≡ c.col → ⊥) ⊎ ((c.started ≡ true) × (line ≡ c.line → ⊥) ⊎ (c.started ≡ false)) → 0 ≡ iota_at line col (counter_of c)
  unfolding counter_of
  value_anew (inl h) = rw (h.0, eq-eqb line c.line h.1, ne_eqb col c.col h.2)
  value_anew (inr (inl h)) = rw (h.0, ne_eqb line c.line h.1)
  value_anew (inr (inr h)) = rw h

  -- ---- the step

  pub stepped-is : {v w : ℕ} → v ≡ iota_at line col (counter_of c) → w ≡ capped_count (v + 1) → record { value = v; next = record { started = true; line = line; col = col; value = w } } ≡ stepped_of c line col
  unfolding moved_of iota_next
  stepped-is e f = rw (f, add-one, e)

  value-most : iota_at line col (counter_of c) ≤ c.value
  unfolding counter_of
  value-most = at_most (same_group line col (counter_of c).group) c.value

  -- below the greatest count the definitions' counter is moved on
  pub moved-counter : c.value < 4294967295 → counter_of (moved_of c line col) ≡ iota_next line col (counter_of c)
  unfolding counter_of moved_of iota_next
  moved-counter h = rw (← capped_small (suc (iota_at line col (counter_of c))) (omega (arith, value-most, h)))

  pub moved_value : (moved_of c line col).value ≤ c.value + 1
  unfolding moved_of iota_next
  moved_value = omega (arith, capped-least (suc (iota_at line col (counter_of c))), value-most)

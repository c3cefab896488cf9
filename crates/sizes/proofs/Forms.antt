-- The forms of a kind, by their places in the table.
use mathlib.Core.Path.{◌≡◌}
use Prim.Native.Nat.{ℕ, zero, suc, ◌≤◌, ◌<◌}
use native.Mathlib.Omega.{arith}
use Rattle.form.specs.Table.{kind_at}
use Rattle.form.proofs.Table.{among-ty, among-ex, among-el, only-se, only-fd, only-pc, only-adt, only-pick, forms-of-kind, form-of-kind}

module _ (f : ℕ) (h : f < 42) where
  -- `ty`
  pub type-form : kind_at f ≡ 75 → f < 8
  type-form e = (forms-of-kind among-ty f h e).1

  -- `ex`
  pub ex-form : kind_at f ≡ 69 → (8 ≤ f) × (f < 20)
  ex-form = forms-of-kind among-ex f h

  -- `el`
  pub element-form : kind_at f ≡ 76 → (20 ≤ f) × (f < 23)
  element-form = forms-of-kind among-el f h

  -- `se`
  pub selector-form : kind_at f ≡ 74 → f ≡ 23
  selector-form = form-of-kind only-se f h

  -- `fd`
  pub field-form : kind_at f ≡ 70 → f ≡ 24
  field-form = form-of-kind only-fd f h

  -- `pc`
  pub case-form : kind_at f ≡ 67 → f ≡ 25
  case-form = form-of-kind only-pc f h

  -- `adt`
  pub adt-form : kind_at f ≡ 65 → f ≡ 26
  adt-form = form-of-kind only-adt f h

  -- `pick`
  pub pick-form : kind_at f ≡ 66 → f ≡ 27
  pick-form = form-of-kind only-pick f h

-- what holds of each form of a type
pub of_types : (P : ℕ → Type 0) → P 0 → P 1 → P 2 → P 3 → P 4 → P 5 → P 6 → P 7 → (f : ℕ) → f < 8 → P f
of_types P a b c d e g i j zero h = a
of_types P a b c d e g i j (suc zero) h = b
of_types P a b c d e g i j (suc (suc zero)) h = c
of_types P a b c d e g i j (suc (suc (suc zero))) h = d
of_types P a b c d e g i j (suc (suc (suc (suc zero)))) h = e
of_types P a b c d e g i j (suc (suc (suc (suc (suc zero))))) h = g
of_types P a b c d e g i j (suc (suc (suc (suc (suc (suc zero)))))) h = i
of_types P a b c d e g i j (suc (suc (suc (suc (suc (suc (suc zero))))))) h = j
of_types P a b c d e g i j (suc (suc (suc (suc (suc (suc (suc (suc f)))))))) h = absurd (omega arith)

-- Kinds of values by their numbers.
use Rattle.std.proofs.Common.{eqb, ◌≡◌, ℕ, zero, suc, sym, ap, refl, Option, None, Some}
use denote.Enum.Bare.{sameb}
use Rattle.codes.specs.contracts.value.Value.{the_type}
use Rattle.codes.specs.declared.value.Value.{Value}
use Rattle.codes.specs.declared.value.Value.TheVariants as V
use Rattle.codes.specs.Kinds.{value_number, value_by}

number_or : Option Value → ℕ
number_or None = 0
number_or (Some k) = value_number k

pub value-number : (n : ℕ) (k : Value) → Some k ≡ value_by n → n ≡ value_number k
unfolding number_or
value-number zero k e = cc
value-number (suc zero) k e = sym (ap number_or e)
value-number (suc (suc zero)) k e = sym (ap number_or e)
value-number (suc (suc (suc zero))) k e = sym (ap number_or e)
value-number (suc (suc (suc (suc n)))) k e = cc

pub no-value : (n : ℕ) → None ≡ value_by n → (n ≡ 1 → ⊥) × (n ≡ 2 → ⊥) × (n ≡ 3 → ⊥)
no-value n e = (λ h. go 1 V.Int h refl, λ h. go 2 V.Real h refl, λ h. go 3 V.Str h refl)
  where
    go : (m : ℕ) (k : Value) → n ≡ m → value_by m ≡ Some k → ⊥
    go m k h q = cc

pub same-kinds : (j k : Value) → sameb the_type j k ≡ eqb (value_number j) (value_number k)
same-kinds V.Int V.Int = refl
same-kinds V.Int V.Real = refl
same-kinds V.Int V.Str = refl
same-kinds V.Real V.Int = refl
same-kinds V.Real V.Real = refl
same-kinds V.Real V.Str = refl
same-kinds V.Str V.Int = refl
same-kinds V.Str V.Real = refl
same-kinds V.Str V.Str = refl

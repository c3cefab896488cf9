-- The values of a literal, as the table and the slots give them.
use mathlib.Core.Path.{◌≡◌, refl, sym, ◌∙◌}
use mathlib.Core.Bool.{true, false, ◌||◌}
use Prim.Native.Nat.{ℕ, zero, suc, ◌+◌, ◌-◌, ◌≤◌, ◌<◌}
use native.Mathlib.Omega.{arith}
use native.Mathlib.Numerals.{add-one}
use borrow.Author.Tests.{eq-eqb, ne_eqb}
use Rattle.semantics.specs.Text.{Bytes, any}
use Rattle.semantics.specs.Array.{Filled, value_at, values_from, filler}
use Rattle.values.specs.declared.ConstVal.{ConstVal}
use Rattle.values.specs.declared.ConstVal.TheVariants.{Int, Real, Str}
use Rattle.values.specs.Values.{value_in, kind_for}
use denote.Enum.Bare.{sameb}
use borrow.Author.Tests.{eqb-true, eqb-false}
use Rattle.codes.specs.contracts.value.Value.{the_type}
use Rattle.codes.specs.declared.value.Value.{Value}
use Rattle.codes.specs.Kinds.{value_number}
use Rattle.codes.proofs.Values.{same-kinds}
use Rattle.placements.specs.Placements.{placement_at, slot_at, element_in, values_in, StringStands, value_named, Filling, value_kind, has_kind}

module _ {t : Bytes} {top k next reach : ℕ} {f : Filled} (p : Filling t top k next reach f) where
  value-is : (i : ℕ) → i < 1024 → value_at f.placements (filler f.wildcard) i ≡ element_in t (placement_at t i)
  value-is i h = p.values i h (filler f.wildcard) ∙ go (placement_at t i)
    where
      go : (b : ℕ) → value_named t (filler f.wildcard) b ≡ element_in t b
      go zero = sym p.fills
      go (suc j) = refl

  pub values-are : (n i : ℕ) → i + n ≤ 1024 → values_from f.placements (filler f.wildcard) i n ≡ values_in t i n
  unfolding values_in
  values-are zero i h = refl
  values-are (suc n) i h = rw (value-is i (omega arith), values-are n (suc i) (omega arith))

  pub value-stands : (i : ℕ) → i < 1024 → StringStands top (slot_at t (placement_at t i))
  value-stands i h = p.strings (placement_at t i) (p.known i h)

-- ---- kinds of single values

kind-is : (t : Bytes) (v : ConstVal) → kind_for v ≡ value_kind (value_in t v)
unfolding value_in
kind-is t (Int z) = refl
kind-is t (Real x) = refl
kind-is t (Str p l) = refl

-- i values are passed, of another kind
pub record NoneOfKind (t : Bytes) (count wanted i : ℕ) : Type 0 where
  pub within : i ≤ count
  pub rest : any (has_kind wanted) (values_in t i (count - i)) ≡ any (has_kind wanted) (values_in t 0 count)

module _ {t : Bytes} {count wanted i : ℕ} (p : NoneOfKind t count wanted i) where
  next-value : i < count → any (has_kind wanted) (values_in t i (count - i)) ≡ has_kind wanted (element_in t (placement_at t i)) || any (has_kind wanted) (values_in t (i + 1) (count - (i + 1)))
  unfolding values_in
  next-value h = let z : count - i ≡ suc (count - (i + 1)) = omega arith in rw (z, add-one)

  module _ (h : i < count) (v : ConstVal) (e : v ≡ slot_at t (placement_at t i)) {r : ℕ} (q : r ≡ kind_for v) where
    kind-here : r ≡ value_kind (element_in t (placement_at t i))
    unfolding element_in
    kind-here = rw e at (q ∙ kind-is t v)

    pub kind-found : r ≡ wanted → true ≡ any (has_kind wanted) (values_in t 0 count)
    kind-found d = sym (sym p.rest ∙ next-value h ∙ rw (eq-eqb (value_kind (element_in t (placement_at t i))) wanted (sym kind-here ∙ d)))

    pub none-of-kind-next : (r ≡ wanted → ⊥) → NoneOfKind t count wanted (i + 1)
    none-of-kind-next d = record { within = omega arith; rest = sym (next-value h ∙ rw (ne_eqb (value_kind (element_in t (placement_at t i))) wanted (λ x. d (kind-here ∙ x)))) ∙ p.rest }

  pub none-of-kind-end : count ≤ i → false ≡ any (has_kind wanted) (values_in t 0 count)
  unfolding values_in
  none-of-kind-end h = let z : count - i ≡ 0 = omega arith in rw z at p.rest

-- ---- the kind of all

pub equal-kinds : (j k : Value) → sameb the_type j k ≡ true → value_number j ≡ value_number k
equal-kinds j k e = eqb-true (value_number j) (value_number k) (sym (same-kinds j k) ∙ e)

pub other-kinds : (j k : Value) → sameb the_type j k ≡ false → value_number j ≡ value_number k → ⊥
other-kinds j k e = eqb-false (value_number j) (value_number k) (sym (same-kinds j k) ∙ e)

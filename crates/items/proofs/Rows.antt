-- Rows of single values and of strings.
use Prim.Native.Nat.{ℕ, ◌+◌, ◌-◌, ◌≤◌}
use mathlib.Core.Path.{◌≡◌, refl, sym, ◌∙◌}
use mathlib.Core.Logic.{◌⊎◌, inl, inr}
use mathlib.Core.Bool.{Bool, true, false, cond}
use mathlib.Core.List.{[], ◌∷◌, append-nil}
use native.Mathlib.Omega.{arith}
use lib.IntN.{ℤ}
use lib.Ieee.{Float}
use lib.ListN.{take, drop}
use Rattle.semantics.specs.Text.{Bytes, hex_of}
use Rattle.semantics.specs.Tree as Tree
use Rattle.semantics.specs.Tree.{Ty, TypeKey}
use Rattle.semantics.specs.Tree.ConstVal.{v_int}
use Rattle.semantics.specs.Tree.ElemKind.{k_word, k_big, k_real}
use Rattle.semantics.specs.Array.{is_of_kind, lowest}
use Rattle.semantics.specs.Global.{value_item, str_element}
use Rattle.semantics.specs.Global.Item.{values_item, str_item}
use Rattle.semantics.specs.Global.Values.{word_values, big_values}
use Rattle.semantics.specs.Listing.{item_row}
use Rattle.write.specs.declared.Writer.{Writer}
use Rattle.write.specs.Writes.{Writes}
use Rattle.write.proofs.Writes.{writes_as}
use Rattle.values.specs.declared.ConstVal.{ConstVal}
use Rattle.values.specs.declared.ConstVal.TheVariants.{Int, Real, Str}
use Rattle.values.specs.Values.{string_in, value_in, Within}
use Rattle.placements.specs.Placements.{slot_at, element_in}
use Rattle.items.specs.Items.{item_rows}
use Rattle.elements.specs.Elements.{values_row}

-- ---- single values

pub string-within : {n : ℕ} {v : ConstVal} {p l : ℕ} → v ≡ Str p l → Within n v → p + l ≤ n
string-within e w = (rw e at w).0

pub part-text : (t : Bytes) (p l : ℕ) → 44 ∷ hex_of (take (p + l - p) (drop p t)) ≡ 44 ∷ hex_of (string_in t p l)
unfolding string_in
part-text t p l = let q : p + l - p ≡ l = omega arith in rw q

int-row : (id : TypeKey → ℕ) (off : ℕ) (z : ℤ) (big : Bool) → values_row (cond big k_big k_word) off (v_int z ∷ []) ≡ item_row id (values_item off (cond big (big_values (z ∷ [])) (word_values (lowest 31 z ∷ []))))
unfolding values_row item_row
int-row id off z true = refl
int-row id off z false = refl

module _ (id : TypeKey → ℕ) (off : ℕ) (ty : Ty) (t : Bytes) {v : ConstVal} {u w : Writer} where
  pub int-item : {z : ℤ} {kind : Tree.ElemKind} {big : Bool} → v ≡ Int z → kind ≡ cond big k_big k_word → is_of_kind k_big ty ≡ big
      → Writes u (values_row kind off (value_in t v ∷ [])) w → Writes u (item_row id (value_item off ty (value_in t v))) w
  unfolding value_in
  int-item {z} {kind} {big} q h i a = rw (q, i) (writes_as (int-row id off z big) (rw (q, h) at a))

  pub real-item : {x : Float} → v ≡ Real x → Writes u (values_row k_real off (value_in t v ∷ [])) w → Writes u (item_row id (value_item off ty (value_in t v))) w
  unfolding value_in values_row item_row
  real-item q a = rw q (rw q at a)

  pub string-item : {p l : ℕ} → v ≡ Str p l → Writes u (item_row id (str_item off (string_in t p l))) w → Writes u (item_row id (value_item off ty (value_in t v))) w
  unfolding value_in
  string-item q a = rw q a

-- ---- a value among strings

module _ (id : TypeKey → ℕ) (off : ℕ) (t : Bytes) (j : ℕ) {v : ConstVal} (q : v ≡ slot_at t j) {u w : Writer} where
  pub no_row : ((z : ℤ) × (v ≡ Int z)) ⊎ ((x : Float) × (v ≡ Real x)) → Writes u [] w → Writes u (item_rows id (str_element off (element_in t j))) w
  unfolding element_in value_in item_rows
  no_row (inl h) a = rw (sym q ∙ h.1) a
  no_row (inr h) a = rw (sym q ∙ h.1) a

  pub one_row : {p l : ℕ} → v ≡ Str p l → Writes u (item_row id (str_item off (string_in t p l))) w → Writes u (item_rows id (str_element off (element_in t j))) w
  unfolding element_in value_in item_rows
  one_row {p} {l} h a = rw (sym q ∙ h) (writes_as (sym (append-nil (item_row id (str_item off (string_in t p l))))) a)

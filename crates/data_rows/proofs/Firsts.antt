-- The rows of a first value, by what it is.
use mathlib.Core.Path.{◌≡◌}
use mathlib.Core.List.{List, [], ◌∷◌, ◌++◌}
use Prim.Native.Nat.{ℕ}
use Rattle.semantics.specs.Text.{Bytes}
use Rattle.semantics.specs.Tree.{Ty, ElemKind, TypeKey}
use Rattle.semantics.specs.Tree.TypeKey.{elem_key}
use Rattle.semantics.specs.Sheet.{sheet_source}
use Rattle.semantics.specs.Global.{Item, value_item, array_items, init_items}
use Rattle.semantics.specs.Types.{distinct, keys, id_of}
use Rattle.write.specs.declared.Writer.{Writer}
use Rattle.write.specs.Writes.{Writes}
use Rattle.checks.specs.Checks.{Outside}
use Rattle.values.specs.declared.ConstVal.{ConstVal}
use Rattle.values.specs.Values.{value_in}
use Rattle.arrays.specs.declared.Arrayed.{Arrayed}
use Rattle.arrays.specs.Arrays.{array_in, ArrayStands}
use Rattle.items.specs.Items.{item_rows}
use Rattle.type_keys.specs.Table.{Kinds}
use Rattle.vars.specs.declared.First.{First}
use Rattle.vars.specs.declared.First.TheVariants.{Value, Array}
use Rattle.vars.specs.First.{first_in}
use Rattle.data_rows.specs.Data.{ItemsPrinted}
use Rattle.data_rows.proofs.Kept.{array-still}
use Rattle.data_rows.proofs.Printed.{printed-as, printed-array}

module _ {s t : Bytes} {x : First} (ty : Ty) (off : ℕ) {m n : ℕ} {u : Bytes} {y z : Writer} where
  pub first-value : {v : ConstVal} → x ≡ Value v → ItemsPrinted s (value_item off ty (value_in t v) ∷ []) m n t u y z → ItemsPrinted s (init_items off ty (first_in t x)) m n t u y z
  first-value h l = printed-as (rw h) l

  pub first-array : {a : Arrayed} → x ≡ Array a → ItemsPrinted s (array_items off (array_in t a)) m n t u y z → ItemsPrinted s (init_items off ty (first_in t x)) m n t u y z
  first-array h l = printed-as (rw h) l

-- an array whose elements' key, of the kind k, has the ID i
pub array-rows : {s t u : Bytes} (off : ℕ) (x : Arrayed) {k : ElemKind} {m n i : ℕ} {y z : Writer} → ArrayStands t x → Outside 10624 10629 t u → k ≡ (array_in t x).kind
    → ((ks : List TypeKey) → Kinds t ks m → Kinds u (ks ++ (elem_key k ∷ [])) n)
    → ((is : List Item) (ks ms : List TypeKey) → Kinds u ks n → keys (sheet_source s) is ≡ distinct [] (ks ++ ms) → i ≡ id_of (sheet_source s) is (elem_key k))
    → ((f : TypeKey → ℕ) → f (elem_key (array_in u x).kind) ≡ i → Writes y (item_rows f (array_items off (array_in u x))) z) → ItemsPrinted s (array_items off (array_in t x)) m n t u y z
array-rows {t = t} off x h o e a b c =
    let q = (array-still o x h).0 in
    printed-array off (array_in t x) (λ ks g. rw e at (a ks g)) (λ is ks ms g d. rw e at (b is ks ms g d)) (λ f g. rw q at (c f (rw q g)))

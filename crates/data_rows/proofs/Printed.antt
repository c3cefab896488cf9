-- Items that are printed one after the other.
use mathlib.Core.Path.{◌≡◌, refl, sym, ap, ◌∙◌, subst}
use mathlib.Core.List.{List, [], ◌∷◌, ◌++◌, append_assoc, append-nil}
use Prim.Native.Nat.{ℕ}
use Rattle.semantics.specs.Text.{Bytes}
use Rattle.semantics.specs.Tree.{Ty, ConstVal, TypeKey}
use Rattle.semantics.specs.Tree.TypeKey.{elem_key}
use Rattle.semantics.specs.Sheet.{concat_map, sheet_source}
use Rattle.semantics.specs.Array.{ConstArray}
use Rattle.semantics.specs.Global.{Item, array_items, value_item}
use Rattle.semantics.specs.Types.{array_key, distinct, keys, id_of}
use Rattle.semantics.specs.Listing.{item_row}
use Rattle.write.specs.declared.Writer.{Writer}
use Rattle.write.specs.Writes.{Writes}
use Rattle.write.proofs.Writes.{writes_none, writes_then, writes_as}
use Rattle.items.specs.Items.{item_rows}
use Rattle.items.proofs.Arrays.{rows_append}
use Rattle.type_keys.specs.Table.{Kinds}
use Rattle.type_keys.proofs.Positions.{keys-are}
use Rattle.data_rows.specs.Data.{keys_of, ItemsPrinted}
use Rattle.data_rows.proofs.Keys.{keys-append, value-keys, array-keys}

keys_with : (s : Bytes) (off : ℕ) (a : ConstArray) (bs : List Item) → keys_of s (bs ++ array_items off a) ≡ keys_of s bs ++ (elem_key a.kind ∷ [])
keys_with s off a bs = keys-append s bs (array_items off a) ∙ ap (λ (ks : List TypeKey). keys_of s bs ++ ks) (array-keys off a)

keys-here : (s : Bytes) (off : ℕ) (a : ConstArray) (bs cs : List Item) → keys (sheet_source s) (bs ++ (array_items off a ++ cs)) ≡ distinct [] ((keys_of s bs ++ (elem_key a.kind ∷ [])) ++ concat_map array_key cs)
keys-here s off a bs cs =
    keys-are s (bs ++ (array_items off a ++ cs))
    ∙ ap (λ (is : List Item). distinct [] (keys_of s is)) (sym (append_assoc bs (array_items off a) cs))
    ∙ ap (distinct []) (keys-append s (bs ++ array_items off a) cs ∙ ap (λ (ks : List TypeKey). ks ++ concat_map array_key cs) (keys_with s off a bs))

pub printed-as : {s : Bytes} {xs ys : List Item} {m n : ℕ} {t u : Bytes} {v w : Writer} → xs ≡ ys → ItemsPrinted s xs m n t u v w → ItemsPrinted s ys m n t u v w
printed-as {s} {xs} {ys} {m} {n} {t} {u} {v} {w} h l = subst (λ (zs : List Item). ItemsPrinted s zs m n t u v w) h l

module _ {s : Bytes} {m : ℕ} {t : Bytes} {v : Writer} where
  -- items without arrays leave the keys
  printed-plain : (xs : List Item) {w : Writer} → concat_map array_key xs ≡ [] → ((id : TypeKey → ℕ) → Writes v (item_rows id xs) w) → ItemsPrinted s xs m m t t v w
  printed-plain xs h a = record {
    rows = λ bs cs x. a (id_of (sheet_source s) (bs ++ (xs ++ cs)));
    kinds = λ bs x. let z : keys_of s (bs ++ xs) ≡ keys_of s bs = keys-append s bs xs ∙ ap (λ (ks : List TypeKey). keys_of s bs ++ ks) h ∙ append-nil (keys_of s bs) in rw z x;
  }

  pub printed-none : ItemsPrinted s [] m m t t v v
  unfolding item_rows
  printed-none = printed-plain [] refl (λ id. writes_none v v.room)

  pub printed-value : (off : ℕ) (ty : Ty) (x : ConstVal) {w : Writer} → ((id : TypeKey → ℕ) → Writes v (item_row id (value_item off ty x)) w) → ItemsPrinted s (value_item off ty x ∷ []) m m t t v w
  unfolding item_rows
  printed-value off ty x a = printed-plain (value_item off ty x ∷ []) (value-keys off ty x) (λ id. writes_as (sym (append-nil (item_row id (value_item off ty x)))) (a id))

  -- an array, whose elements' key has the ID i
  pub printed-array : (off : ℕ) (a : ConstArray) {n i : ℕ} {u : Bytes} {w : Writer}
      → ((ks : List TypeKey) → Kinds t ks m → Kinds u (ks ++ (elem_key a.kind ∷ [])) n)
      → ((is : List Item) (ks ms : List TypeKey) → Kinds u ks n → keys (sheet_source s) is ≡ distinct [] (ks ++ ms) → i ≡ id_of (sheet_source s) is (elem_key a.kind))
      → ((f : TypeKey → ℕ) → f (elem_key a.kind) ≡ i → Writes v (item_rows f (array_items off a)) w) → ItemsPrinted s (array_items off a) m n t u v w
  printed-array off a k j b = record {
    rows = λ bs cs x.
        let is = bs ++ (array_items off a ++ cs) in
        b (id_of (sheet_source s) is) (sym (j is (keys_of s bs ++ (elem_key a.kind ∷ [])) (concat_map array_key cs) (k (keys_of s bs) x) (keys-here s off a bs cs)));
    kinds = λ bs x. rw (keys_with s off a bs) (k (keys_of s bs) x);
  }

-- items and those behind them
pub printed-then : {s : Bytes} (xs ys : List Item) {l m n : ℕ} {t u v : Bytes} {w x y : Writer} → ItemsPrinted s xs l m t u w x → ItemsPrinted s ys m n u v x y → ItemsPrinted s (xs ++ ys) l n t v w y
printed-then {s} xs ys {n = n} {v = v} {w = w} {x = x} {y = y} a b = record {
  rows = λ bs cs k.
      let g = id_of (sheet_source s) (bs ++ ((xs ++ ys) ++ cs)) in
      let h : bs ++ (xs ++ (ys ++ cs)) ≡ bs ++ ((xs ++ ys) ++ cs) = ap (λ (l : List Item). bs ++ l) (sym (append_assoc xs ys cs)) in
      let i : (bs ++ xs) ++ (ys ++ cs) ≡ bs ++ ((xs ++ ys) ++ cs) = append_assoc bs xs (ys ++ cs) ∙ h in
      let c : Writes w (item_rows g xs) x = subst (λ (l : List Item). Writes w (item_rows (id_of (sheet_source s) l) xs) x) h (a.rows bs (ys ++ cs) k) in
      let d : Writes x (item_rows g ys) y = subst (λ (l : List Item). Writes x (item_rows (id_of (sheet_source s) l) ys) y) i (b.rows (bs ++ xs) cs (a.kinds bs k)) in
      writes_as (sym (rows_append g xs ys)) (writes_then c d);
  kinds = λ bs k. subst (λ (l : List Item). Kinds v (keys_of s l) n) (append_assoc bs xs ys) (b.kinds (bs ++ xs) (a.kinds bs k));
}

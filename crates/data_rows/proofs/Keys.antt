-- How many keys there are, and those that items use.
use mathlib.Core.Path.{◌≡◌, refl, sym, ap, ◌∙◌}
use mathlib.Core.Bool.{Bool, true, false, cond}
use mathlib.Core.List.{List, [], ◌∷◌, ◌++◌, append_assoc}
use Prim.Native.Nat.{ℕ, suc, ◌+◌, ◌≤◌, ◌<◌}
use native.Mathlib.Omega.{arith}
use lib.Dec.{eqb}
use Rattle.semantics.specs.Text.{Bytes}
use Rattle.semantics.specs.Tree.{Ty, ConstVal, ElemKind, TypeKey}
use Rattle.semantics.specs.Tree.ConstVal.{v_int, v_real, v_str}
use Rattle.semantics.specs.Tree.ElemKind.{k_byte, k_word, k_big, k_real, k_ptr}
use Rattle.semantics.specs.Tree.TypeKey.{elem_key}
use Rattle.semantics.specs.Sheet.{concat_map, sheet_source}
use Rattle.semantics.specs.Array.{ConstArray}
use Rattle.semantics.specs.Global.{Item, str_items, element_items, contents, array_items, value_item}
use Rattle.semantics.specs.Global.Item.{back_item}
use Rattle.semantics.specs.Types.{array_key, distinct, position}
use Rattle.laws.proofs.Lists.{concat-append}
use Rattle.type_keys.specs.Table.{kind_position, is_used, kinds_used, Kinds}
use Rattle.type_lines.proofs.Codes.{same_self}
use Rattle.type_keys.proofs.Distinct.{distinct_more, from-one-more}
use Rattle.data_rows.specs.Data.{keys_of}

-- ---- how many keys there are

used-one : (p : ℕ) → is_used p ≤ 1
used-one p = go (eqb p 0)
  where
    go : (b : Bool) → cond b 0 1 ≤ 1
    go true = omega arith
    go false = omega arith

pub kinds-few : {t : Bytes} {ks : List TypeKey} {count : ℕ} → Kinds t ks count → count ≤ 133
unfolding kinds_used
kinds-few {t} x = omega (arith, x.few, used-one (kind_position t k_byte), used-one (kind_position t k_word), used-one (kind_position t k_big), used-one (kind_position t k_real), used-one (kind_position t k_ptr))

-- ---- one more kind

-- it is used then
pub kind-used : {t : Bytes} (ks : List TypeKey) {count : ℕ} (k : ElemKind) → Kinds t (ks ++ (elem_key k ∷ [])) count → 0 < kind_position t k
kind-used {t} ks k x =
    let w : kind_position t k ≡ suc (position (elem_key k) (distinct [] ks)) = x.position k ∙ rw (distinct_more (elem_key k) ks) (from-one-more (elem_key k) (distinct [] ks) (elem_key k) ∙ rw (same_self (elem_key k))) in
    omega (arith, w)

-- ---- keys of items

pub keys-append : (s : Bytes) (bs xs : List Item) → keys_of s (bs ++ xs) ≡ keys_of s bs ++ concat_map array_key xs
keys-append s bs xs = ap (λ (ks : List TypeKey). (sheet_source s).needs ++ ks) (concat-append array_key bs xs) ∙ sym (append_assoc (sheet_source s).needs (concat_map array_key bs) (concat_map array_key xs))

pub value-keys : (off : ℕ) (t : Ty) (v : ConstVal) → concat_map array_key (value_item off t v ∷ []) ≡ []
value-keys off t (v_int x) = refl
value-keys off t (v_real x) = refl
value-keys off t (v_str x) = refl

string-keys : (off : ℕ) (vs : List ConstVal) → concat_map array_key (str_items off vs) ≡ []
string-keys off [] = refl
string-keys off (v_int x ∷ vs) = string-keys (off + 4) vs
string-keys off (v_real x ∷ vs) = string-keys (off + 4) vs
string-keys off (v_str x ∷ vs) = string-keys (off + 4) vs

element-keys : (k : ElemKind) (vs : List ConstVal) → concat_map array_key (element_items k vs) ≡ []
element-keys k_byte vs = refl
element-keys k_word vs = refl
element-keys k_big vs = refl
element-keys k_real vs = refl
element-keys k_ptr vs = string-keys 0 vs

content-keys : (off : ℕ) (k : ElemKind) (vs : List ConstVal) → concat_map array_key (contents off k vs) ≡ []
content-keys off k [] = refl
content-keys off k (v ∷ vs) = concat-append array_key (element_items k (v ∷ vs)) (back_item ∷ []) ∙ rw (element-keys k (v ∷ vs))

-- an array uses the key of its elements alone
pub array-keys : (off : ℕ) (a : ConstArray) → concat_map array_key (array_items off a) ≡ elem_key a.kind ∷ []
array-keys off a = ap (λ (ks : List TypeKey). elem_key a.kind ∷ ks) (content-keys off a.kind a.values)

-- Rows of a literal's elements, and of arrays.
use Prim.Native.Nat.{ℕ, zero, suc, ◌+◌, ◌*◌, ◌≤◌}
use mathlib.Core.Path.{◌≡◌, refl, sym, ap, subst, ◌∙◌}
use mathlib.Core.List.{List, [], ◌∷◌, ◌++◌, map, append_assoc, append-nil}
use native.Mathlib.Omega.{arith}
use native.Mathlib.Nat.{zero-add, le_antisymm}
use native.Mathlib.Numerals.{add-one}
use lib.ListN.{length, length-map}
use Rattle.semantics.specs.Text.{Bytes, bytes, decimal, decimalℤ}
use Rattle.semantics.specs.Tree.{ConstVal, ElemKind, TypeKey}
use Rattle.semantics.specs.Array.{const_byte, const_word, const_big, const_real}
use Rattle.semantics.specs.Global.{Item, str_element, str_items, element_items, array_items}
use Rattle.semantics.specs.Global.Item.{array_item, set_item, back_item}
use Rattle.semantics.specs.Listing.{item_row, real_text, row}
use Rattle.codes.specs.declared.element.Element.{Element}
use Rattle.codes.specs.declared.element.Element.TheVariants.{Byte, Word, Big, Real, Pointer}
use Rattle.codes.specs.Kinds.{element_kind}
use Rattle.write.specs.declared.Writer.{Writer}
use Rattle.write.specs.Writes.{Writes}
use Rattle.write.proofs.Writes.{writes_as, writes_then}
use Rattle.rows.specs.Rows.{commaed}
use Rattle.values.specs.declared.ConstVal as Code
use Rattle.values.specs.Values.{value_in}
use Rattle.placements.specs.Placements.{placement_at, slot_at, element_in, values_in}
use Rattle.items.specs.Items.{item_rows}
use Rattle.elements.specs.Elements.{element_text, element_texts, values_row}

-- ---- one more value of a literal

pub values_length : (t : Bytes) (n i : ℕ) → length (values_in t i n) ≡ n
unfolding values_in
values_length t zero i = refl
values_length t (suc n) i = ap suc (values_length t n (suc i))

values-last : (t : Bytes) (n i : ℕ) → values_in t i (suc n) ≡ values_in t i n ++ (element_in t (placement_at t (i + n)) ∷ [])
unfolding values_in
values-last t zero i = let q : i + 0 ≡ i = omega arith in rw q
values-last t (suc n) i =
    let q : suc i + n ≡ i + suc n = omega arith in
    ap (λ (vs : List ConstVal). element_in t (placement_at t i) ∷ vs) (values-last t n (suc i) ∙ ap (λ (j : ℕ). values_in t (suc i) n ++ (element_in t (placement_at t j) ∷ [])) q)

values-next : (t : Bytes) (i : ℕ) → values_in t 0 (i + 1) ≡ values_in t 0 i ++ (element_in t (placement_at t i) ∷ [])
values-next t i = rw add-one (values-last t i 0 ∙ ap (λ (j : ℕ). values_in t 0 i ++ (element_in t (placement_at t j) ∷ [])) (zero-add i))

texts-last : (k : ElemKind) (vs : List ConstVal) (x : ConstVal) → commaed (element_texts k (vs ++ (x ∷ []))) ≡ commaed (element_texts k vs) ++ (44 ∷ element_text k x)
texts-last k [] x = append-nil (44 ∷ element_text k x)
texts-last k (v ∷ vs) x =
    ap (λ (t : Bytes). (44 ∷ element_text k v) ++ t) (texts-last k vs x)
    ∙ sym (append_assoc (44 ∷ element_text k v) (commaed (element_texts k vs)) (44 ∷ element_text k x))

pub rows_append : (id : TypeKey → ℕ) (xs ys : List Item) → item_rows id (xs ++ ys) ≡ item_rows id xs ++ item_rows id ys
unfolding item_rows
rows_append id [] ys = refl
rows_append id (x ∷ xs) ys = ap (λ (t : Bytes). item_row id x ++ t) (rows_append id xs ys) ∙ sym (append_assoc (item_row id x) (item_rows id xs) (item_rows id ys))

items-last : (o : ℕ) (vs : List ConstVal) (x : ConstVal) → str_items o (vs ++ (x ∷ [])) ≡ str_items o vs ++ str_element (o + 4 * length vs) x
items-last o [] x = let q : o + 4 * 0 ≡ o = omega arith in append-nil (str_element o x) ∙ ap (λ (j : ℕ). str_element j x) (sym q)
items-last o (v ∷ vs) x =
    let q : o + 4 + 4 * length vs ≡ o + 4 * suc (length vs) = omega arith in
    ap (λ (is : List Item). str_element o v ++ is) (items-last (o + 4) vs x ∙ ap (λ (j : ℕ). str_items (o + 4) vs ++ str_element j x) q)
    ∙ sym (append_assoc (str_element o v) (str_items (o + 4) vs) (str_element (o + 4 * suc (length vs)) x))

module _ (t : Bytes) (i : ℕ) {u v w : Writer} where
  pub elements-next : (k : ElemKind) {x : Code.ConstVal} → x ≡ slot_at t (placement_at t i) → Writes u (commaed (element_texts k (values_in t 0 i))) v
      → ((s : Bytes) → Writes v (44 ∷ element_text k (value_in s x)) w) → Writes u (commaed (element_texts k (values_in t 0 (i + 1)))) w
  unfolding element_in
  elements-next k q a b =
      writes_as
      (sym (ap (λ (vs : List ConstVal). commaed (element_texts k vs)) (values-next t i) ∙ texts-last k (values_in t 0 i) (element_in t (placement_at t i))))
      (writes_then a (rw q at (b t)))

  pub strings-next : (id : TypeKey → ℕ) → Writes u (item_rows id (str_items 0 (values_in t 0 i))) v
      → Writes v (item_rows id (str_element (4 * i) (element_in t (placement_at t i)))) w → Writes u (item_rows id (str_items 0 (values_in t 0 (i + 1)))) w
  strings-next id a b =
      writes_as
      (sym
      (ap (λ (vs : List ConstVal). item_rows id (str_items 0 vs)) (values-next t i)
      ∙ ap (item_rows id) (items-last 0 (values_in t 0 i) (element_in t (placement_at t i)) ∙ ap (λ (n : ℕ). str_items 0 (values_in t 0 i) ++ str_element n (element_in t (placement_at t i))) place)
      ∙ rows_append id (str_items 0 (values_in t 0 i)) (str_element (4 * i) (element_in t (placement_at t i)))))
      (writes_then a b)
    where
      place : 0 + 4 * length (values_in t 0 i) ≡ 4 * i
      place = zero-add (4 * length (values_in t 0 i)) ∙ ap (λ (n : ℕ). 4 * n) (values_length t i 0)

-- a loop has met its bound
pub up_to : (F : ℕ → Bytes) {i n : ℕ} {v w : Writer} → i ≤ n → n ≤ i → Writes v (F i) w → Writes v (F n) w
up_to F {v = v} {w = w} h k a = subst (λ (j : ℕ). Writes v (F j) w) (le_antisymm h k) a

-- ---- elements by the kind of their array

module _ {A : Type 0} (f : ConstVal → A) (g : A → Bytes) where
  texts-same : (vs : List ConstVal) → map (λ (v : ConstVal). g (f v)) vs ≡ map g (map f vs)
  texts-same [] = refl
  texts-same (v ∷ vs) = ap (λ (l : List Bytes). g (f v) ∷ l) (texts-same vs)

  fields-same : (name : Bytes) (vs : List ConstVal)
      → row (bytes "dat" ∷ name ∷ decimal 0 ∷ decimal (length vs) ∷ map (λ (v : ConstVal). g (f v)) vs) ≡ row (bytes "dat" ∷ name ∷ decimal 0 ∷ decimal (length (map f vs)) ∷ map g (map f vs)) ++ []
  fields-same name vs = rw (append-nil, length-map vs f, texts-same vs)

module _ (id : TypeKey → ℕ) (vs : List ConstVal) where
  pub number-rows : (k : Element) → (k ≡ Pointer → ⊥) → values_row (element_kind k) 0 vs ≡ item_rows id (element_items (element_kind k) vs)
  unfolding item_rows item_row values_row
  number-rows Byte h = fields-same const_byte decimal (bytes "bytes") vs
  number-rows Word h = fields-same const_word decimalℤ (bytes "words") vs
  number-rows Big h = fields-same const_big decimalℤ (bytes "bigs") vs
  number-rows Real h = fields-same const_real real_text (bytes "reals") vs
  number-rows Pointer h = absurd (h refl)

-- ---- arrays

-- `back` stands behind the elements
pub contents-rows : (id : TypeKey → ℕ) (off : ℕ) (k : ElemKind) (vs : List ConstVal) {u v w x : Writer}
    → Writes u (item_row id (set_item off)) v → Writes v (item_rows id (element_items k vs)) w → Writes w (item_row id back_item) x
    → Writes u (item_rows id (set_item off ∷ (element_items k vs ++ (back_item ∷ [])))) x
unfolding item_rows
contents-rows id off k vs a b c =
    writes_as
    (sym
    (ap (λ (t : Bytes). item_row id (set_item off) ++ t)
    (rows_append id (element_items k vs) (back_item ∷ []) ∙ ap (λ (t : Bytes). item_rows id (element_items k vs) ++ t) (append-nil (item_row id back_item)))))
    (writes_then a (writes_then b c))

module _ (id : TypeKey → ℕ) (off : ℕ) (k : ElemKind) {u v : Writer} where
  pub array-alone : (n : ℕ) → Writes u (item_row id (array_item off k n)) v → Writes u (item_rows id (array_items off (record { kind = k; count = n; values = [] }))) v
  unfolding item_rows
  array-alone n a = writes_as (sym (append-nil (item_row id (array_item off k n)))) a

  module _ (t : Bytes) where
    pub array-empty : {n : ℕ} → n ≡ 0 → Writes u (item_row id (array_item off k n)) v → Writes u (item_rows id (array_items off (record { kind = k; count = n; values = values_in t 0 n }))) v
    unfolding values_in
    array-empty h a = rw h (array-alone 0 (rw h at a))

    pub array-filled : {n : ℕ} {w : Writer} → (n ≡ 0 → ⊥) → Writes u (item_row id (array_item off k n)) v
        → Writes v (item_rows id (set_item off ∷ (element_items k (values_in t 0 n) ++ (back_item ∷ [])))) w → Writes u (item_rows id (array_items off (record { kind = k; count = n; values = values_in t 0 n }))) w
    unfolding values_in item_rows
    array-filled {n = zero} h a b = absurd (h refl)
    array-filled {n = suc n} h a b = writes_then a b

-- Kinds of elements, by lines.
use mathlib.Core.Path.{◌≡◌, refl, sym, ap, ◌∙◌, subst}
use mathlib.Core.Bool.{Bool, true, false, ◌&&◌}
use mathlib.Core.List.{List, [], ◌∷◌}
use mathlib.Core.Logic.{◌⊎◌, inl, inr}
use Prim.Native.Nat.{ℕ, zero, suc, ◌+◌, ◌-◌, ◌≤◌, ◌<◌}
use native.Mathlib.Omega.{arith}
use lib.Dec.{ltb, eqb}
use lib.ListN.{take, drop, get_or, length-take, length-drop}
use lib.Seq.{get_or-take, get_or-drop}
use borrow.Author.Tests.{ltb-true, ltb-false}
use Rattle.checks.specs.Checks.{KindLine}
use Rattle.semantics.specs.Text.{Bytes}
use Rattle.semantics.specs.Tree.{Node, ElemKind}
use Rattle.semantics.specs.Tree.ElemKind.{k_byte, k_word, k_big, k_real, k_ptr}
use denote.Enum.Bare.{sameb}
use Rattle.codes.specs.contracts.element.Element.{the_type}
use Rattle.codes.specs.declared.element.Element.{Element}
use Rattle.codes.specs.declared.element.Element.TheVariants as E
use Rattle.codes.specs.Kinds.{element_kind}
use Rattle.semantics.specs.Form.{Row, forms, no_row, number_of, make}
use Rattle.semantics.specs.Form.Kind.{k_ty, k_ex}
use Rattle.semantics.specs.Form.Atom.{ref}
use Rattle.semantics.specs.Form.Part.{one}
use Rattle.semantics.specs.Array.{kind_number, elem_kind, is_of_kind, is_byte_cast, all_byte_casts, is_byte_literal}
use Rattle.decimal.specs.Number as Number
use Rattle.form.specs.Table.{row_at, row_node}
use Rattle.form.proofs.Table.{row-count, Each, done, ◌also◌, each_at}
use Rattle.lines.specs.Lines.{lines_in, reads_in, read_at, nodes_in, form_at}
use Rattle.lines.proofs.Line.{form-low, kind-is}
use Rattle.refs.proofs.Nodes.{node-at}
use Rattle.sizes.specs.Sizes.{type_at, TypeLine}
use Rattle.sizes.proofs.Forms.{type-form, of_types}
use Rattle.refs.proofs.Fields.{head-drop}
use Rattle.sizes.proofs.Types.{ref-head}
use Rattle.leaf.specs.Folds.{ex_at}
use Rattle.literals.specs.Literals.{els_at, LiteralLine}
use Rattle.literals.proofs.Lines.{line-form, parts_at, makes, good-line, el-value, value-ref}
use Rattle.literals.proofs.Turns.{els_from, all-elements, element-line, elements-split}

-- ---- a type's line

-- the kind of a form
abbrev form_kind : ℕ → ElemKind
form_kind f = get_or (k_word ∷ k_byte ∷ k_big ∷ k_real ∷ []) f k_ptr

kind-of-form : (ns : List Node) (fs : List Bytes) (f : ℕ) → f < 8 → elem_kind (row_node ns f fs).ty ≡ form_kind f
unfolding forms
kind-of-form ns fs = of_types (λ f. elem_kind (row_node ns f fs).ty ≡ form_kind f) refl refl refl refl refl refl refl refl

behind : (f : ℕ) → (f ≡ 0 → ⊥) → (f ≡ 1 → ⊥) → (f ≡ 2 → ⊥) → (f ≡ 3 → ⊥) → k_ptr ≡ form_kind f
behind zero a b c d = absurd (a refl)
behind (suc zero) a b c d = absurd (b refl)
behind (suc (suc zero)) a b c d = absurd (c refl)
behind (suc (suc (suc zero))) a b c d = absurd (d refl)
behind (suc (suc (suc (suc f)))) a b c d = refl

module _ {s : Bytes} {r : ℕ} (l : TypeLine s r) {f : ℕ} (hf : f ≡ form_at s (r - 1)) where
  kind-of : elem_kind (type_at s r) ≡ form_kind f
  kind-of =
      let i : r - 1 < lines_in s = omega (arith, l.first, l.last) in
      let w = l.checked.whole in
      let low : form_at s (r - 1) < 8 = type-form (form_at s (r - 1)) (form-low s w (r - 1) i) (sym (kind-is s w (r - 1) i) ∙ l.kind) in
      ap (λ (m : Node). elem_kind m.ty) (node-at s w l.checked.good (r - 1) i) ∙ rw hf (kind-of-form (nodes_in s) (read_at s (r - 1)).fields (form_at s (r - 1)) low)

  pub kind_at : {g : ℕ} → f ≡ g → form_kind g ≡ elem_kind (type_at s r)
  kind_at e = sym (kind-of ∙ ap form_kind e)

  pub kind-pointer : (f ≡ 0 → ⊥) → (f ≡ 1 → ⊥) → (f ≡ 2 → ⊥) → (f ≡ 3 → ⊥) → k_ptr ≡ elem_kind (type_at s r)
  kind-pointer a b c d = behind f a b c d ∙ sym kind-of

-- ---- a cast to byte

-- what holds of the rows below a and from b on
pub outside-forms : (P : Row → Type 0) (a b : ℕ) → a ≤ 42 → b ≤ 42 → Each P (take a forms) → Each P (drop b forms) → (f : ℕ) → f < 42 → (f < a) ⊎ (b ≤ f) → P (row_at f)
outside-forms P a b ha hb x y f h (inl k) = subst P (get_or-take a forms f no_row k) (each_at P (take a forms) x f (omega (arith, length-take a forms, row-count)))
outside-forms P a b ha hb x y f h (inr k) =
    let z : b + (f - b) ≡ f = omega arith in
    subst P (get_or-drop b forms (f - b) no_row ∙ ap row_at z) (each_at P (drop b forms) y (f - b) (omega (arith, length-drop b forms, row-count)))

module _ (ns : List Node) (fs : List Bytes) where
  abbrev NoCast : Row → Type 0
  NoCast w = is_byte_cast (make w.parts w.make ns fs).ex ≡ false

  no-cast : (f : ℕ) → f < 42 → (f < 15) ⊎ (16 ≤ f) → is_byte_cast (row_node ns f fs).ex ≡ false
  unfolding forms
  no-cast =
      outside-forms NoCast 15 16 (omega arith) (omega arith)
      (refl also refl also refl also refl also refl also refl also refl also refl also refl also refl also refl also refl also refl also refl also refl also done)
      (refl also refl also refl also refl also refl also refl also refl also refl also refl also refl also refl also refl also refl also refl also refl also refl also refl also refl also refl also refl also refl also refl also refl also refl also refl also refl also done)

module _ {s : Bytes} {r : ℕ} (l : KindLine 69 s r) where
  pub cast-not : {f : ℕ} → f ≡ form_at s (r - 1) → (f ≡ 15 → ⊥) → false ≡ is_byte_cast (ex_at s r)
  cast-not {f} e h = sym (ap (λ (x : Node). is_byte_cast x.ex) (makes l refl) ∙ no-cast (nodes_in s) (read_at s (r - 1)).fields (form_at s (r - 1)) (line-form l).0 (go (ltb (form_at s (r - 1)) 15) refl))
    where
      go : (b : Bool) → ltb (form_at s (r - 1)) 15 ≡ b → (form_at s (r - 1) < 15) ⊎ (16 ≤ form_at s (r - 1))
      go true d = inl (ltb-true (form_at s (r - 1)) 15 d)
      go false d = let x : 15 ≤ form_at s (r - 1) = ltb-false (form_at s (r - 1)) 15 d in inr (omega (arith, h))

  module _ {f : ℕ} (e : f ≡ form_at s (r - 1)) (h : f ≡ 15) {v : ℕ} (hv : v ≡ Number.number_up_to 65536 (get_or (read_at s (r - 1)).fields 0 [])) where
    cast-good : (v ≡ number_of (get_or (read_at s (r - 1)).fields 0 [])) × KindLine 75 s v
    unfolding forms
    cast-good =
        let w = parts_at l (sym e ∙ h) in
        good-line l 75 (get_or (read_at s (r - 1)).fields 0 []) v hv (ref-head (reads_in s) (r - 1) k_ty (one (ref k_ex) ∷ []) (read_at s (r - 1)).fields w.0 w.1).0

    pub cast-line : TypeLine s v
    cast-line = cast-good.1

    cast-value : is_of_kind k_byte (type_at s v) ≡ is_byte_cast (ex_at s r)
    unfolding forms
    cast-value = sym (ap (λ (y : Node). is_byte_cast y.ex) (makes l (sym e ∙ h)) ∙ rw (head-drop 0 (read_at s (r - 1)).fields, ← cast-good.0))

    -- as enums are compared
    pub cast_is : (x : Element) → element_kind x ≡ elem_kind (type_at s v) → sameb the_type x E.Byte ≡ is_byte_cast (ex_at s r)
    cast_is x d = same-byte x ∙ ap (λ (k : ElemKind). eqb (kind_number k) 0) d ∙ cast-value
      where
        same-byte : (x : Element) → sameb the_type x E.Byte ≡ eqb (kind_number (element_kind x)) 0
        same-byte E.Byte = refl
        same-byte E.Word = refl
        same-byte E.Big = refl
        same-byte E.Real = refl
        same-byte E.Pointer = refl

-- ---- byte literals

-- j elements are casts to byte
pub record Casting (s : Bytes) (r count j : ℕ) : Type 0 where
  pub within : j ≤ count
  pub rest : all_byte_casts (els_from s r count j) ≡ all_byte_casts (els_from s r count 0)

some-elements : (s : Bytes) (r count : ℕ) → 0 < count → is_byte_literal (els_from s r count 0) ≡ all_byte_casts (els_from s r count 0)
some-elements s r zero h = absurd (omega arith)
some-elements s r (suc c) h = let z : suc c - 0 ≡ suc c = omega arith in rw z

no-elements : (s : Bytes) (r count : ℕ) → count ≤ 0 → is_byte_literal (els_from s r count 0) ≡ false
no-elements s r count h = let z : count - 0 ≡ 0 = omega arith in rw z

module _ {s : Bytes} {r : ℕ} (k : LiteralLine s r) {count : ℕ} (hc : count ≡ Number.number_up_to 65536 (get_or (read_at s (r - 1)).fields 2 [])) {j : ℕ} (c : Casting s r count j) where
  pub casting-end : count ≤ j → ltb 0 count ≡ is_byte_literal (els_at s r)
  casting-end h = go (ltb 0 count) refl
    where
      z : count - j ≡ 0
      z = omega arith

      go : (b : Bool) → ltb 0 count ≡ b → b ≡ is_byte_literal (els_at s r)
      go true e = sym (ap is_byte_literal (sym (all-elements k hc)) ∙ some-elements s r count (ltb-true 0 count e) ∙ sym (rw z at c.rest))
      go false e = sym (ap is_byte_literal (sym (all-elements k hc)) ∙ no-elements s r count (ltb-false 0 count e))

  module _ (h : j < count) {q : ℕ} (hq : q ≡ Number.number_up_to 65536 (get_or (read_at s (r - 1)).fields (3 + j) [])) where
    pub element-at : KindLine 76 s q
    element-at = element-line k hc h hq

    module _ {v : ℕ} (hv : v ≡ Number.number_up_to 65536 (get_or (read_at s (q - 1)).fields 0 [])) where
      element-value : (v ≡ number_of (get_or (read_at s (q - 1)).fields 0 [])) × KindLine 69 s v
      element-value = good-line element-at 69 (get_or (read_at s (q - 1)).fields 0 []) v hv (value-ref element-at)

      pub value_line : KindLine 69 s v
      value_line = element-value.1

      split-casts : all_byte_casts (els_from s r count j) ≡ is_byte_cast (ex_at s v) && all_byte_casts (els_from s r count (j + 1))
      split-casts = rw (elements-split k hc h hq, el-value element-at, ← element-value.0)

      pub casting-stop : false ≡ is_byte_cast (ex_at s v) → false ≡ is_byte_literal (els_at s r)
      casting-stop e = sym (ap is_byte_literal (sym (all-elements k hc)) ∙ some-elements s r count (omega arith) ∙ sym c.rest ∙ split-casts ∙ rw (sym e))

      pub casting-next : true ≡ is_byte_cast (ex_at s v) → Casting s r count (j + 1)
      casting-next e = record { within = omega arith; rest = sym (split-casts ∙ rw (sym e)) ∙ c.rest }

-- The key of a `need` line of each form, and which kind of element it asks for.
use mathlib.Core.Path.{◌≡◌, refl, ◌∙◌}
use mathlib.Core.Bool.{Bool}
use mathlib.Core.List.{List}
use Rattle.std.specs.Prelude.{Option, Some}
use Prim.Native.Nat.{ℕ, zero, suc, ◌+◌, ◌-◌, ◌<◌}
use native.Mathlib.Omega.{arith}
use Rattle.semantics.specs.Text.{holds_of}
use Rattle.semantics.specs.Tree.{Node, ElemKind, TypeKey}
use Rattle.semantics.specs.Tree.TypeKey.{adt_key, elem_key, block_key, opaque_key}
use Rattle.semantics.specs.Types.{same_type_key}
use Rattle.codes.specs.declared.element.Element.{Element}
use Rattle.codes.specs.declared.element.Element.TheVariants as E
use Rattle.codes.specs.Kinds.{element_kind}
use Rattle.lines.specs.Lines.{read_at, nodes_in, form_at}
use Rattle.source.specs.Walk.{field_at}
use Rattle.type_lines.specs.Needs.{need_at, NeedLine, kind_by}
use Rattle.type_lines.specs.Shapes.{written_shape}
use Rattle.type_lines.proofs.Forms.{key_by, key-is, form-from}

module _ (s : List ℕ) (i : ℕ) (l : NeedLine s i) where
  pub name-key : form_at s i ≡ 34 → need_at s i ≡ adt_key (field_at (read_at s i).fields 0)
  name-key e = key-is s i l ∙ rw e

  pub block-key : form_at s i ≡ 40 → need_at s i ≡ block_key (written_shape s i)
  unfolding written_shape
  block-key e = key-is s i l ∙ rw e

  pub opaque-key : form_at s i ≡ 41 → need_at s i ≡ opaque_key
  opaque-key e = key-is s i l ∙ rw e

-- ---- which kind of element a `need` line asks for

-- k is the kind o
abbrev pub is_kind : ElemKind → Option Element → Bool
is_kind k o = holds_of (λ e. same_type_key (elem_key k) (elem_key (element_kind e))) o

-- the kind o, if any, is the key's
abbrev KindOf : Option Element → TypeKey → Type 0
KindOf o key = ((k : ElemKind) → same_type_key (elem_key k) key ≡ is_kind k o) × ((e : Element) → o ≡ Some e → key ≡ elem_key (element_kind e))

kind_of : (ns : List Node) (fs : List (List ℕ)) (d : ℕ) → d < 8 → KindOf (kind_by (34 + d)) (key_by (34 + d) ns fs)
kind_of ns fs zero h = (λ k. refl, λ e q. cc)
kind_of ns fs (suc zero) h = (λ k. refl, λ e q. let z : e ≡ E.Word = cc in rw z)
kind_of ns fs (suc (suc zero)) h = (λ k. refl, λ e q. let z : e ≡ E.Byte = cc in rw z)
kind_of ns fs (suc (suc (suc zero))) h = (λ k. refl, λ e q. let z : e ≡ E.Big = cc in rw z)
kind_of ns fs (suc (suc (suc (suc zero)))) h = (λ k. refl, λ e q. let z : e ≡ E.Real = cc in rw z)
kind_of ns fs (suc (suc (suc (suc (suc zero))))) h = (λ k. refl, λ e q. let z : e ≡ E.Pointer = cc in rw z)
kind_of ns fs (suc (suc (suc (suc (suc (suc zero)))))) h = (λ k. refl, λ e q. cc)
kind_of ns fs (suc (suc (suc (suc (suc (suc (suc zero))))))) h = (λ k. refl, λ e q. cc)
kind_of ns fs (suc (suc (suc (suc (suc (suc (suc (suc d)))))))) h = absurd (omega arith)

module _ (s : List ℕ) (i : ℕ) (l : NeedLine s i) where
  kinds-of : KindOf (kind_by (form_at s i)) (need_at s i)
  kinds-of =
      let z : 34 + (form_at s i - 34) ≡ form_at s i = omega (arith, (form-from s i l).0) in
      rw (key-is s i l) (rw z at (kind_of (nodes_in s) (read_at s i).fields (form_at s i - 34) (omega (arith, (form-from s i l).1))))

  pub elem_is : (k : ElemKind) → same_type_key (elem_key k) (need_at s i) ≡ is_kind k (kind_by (form_at s i))
  elem_is = kinds-of.0

  pub elem-key : (e : Element) → kind_by (form_at s i) ≡ Some e → need_at s i ≡ elem_key (element_kind e)
  elem-key = kinds-of.1

-- A `var` line: its type, and the line of its value.
use mathlib.Core.Path.{◌≡◌, refl, sym, ap, ◌∙◌}
use mathlib.Core.List.{List, []}
use Rattle.std.specs.Prelude.{None, Some}
use Prim.Native.Nat.{ℕ, zero, suc, ◌-◌, ◌≤◌, ◌<◌}
use native.Mathlib.Omega.{arith}
use lib.ListN.{length, get_or}
use Rattle.checks.specs.Checks.{KindLine}
use Rattle.semantics.specs.Text.{Bytes}
use Rattle.semantics.specs.Tree.{Node, Ty, elem_of}
use Rattle.semantics.specs.Form.{forms, number_of, node_at, perhaps_at, ex_of}
use Rattle.semantics.specs.Form.Kind.{k_ty}
use Rattle.decimal.specs.Number as Number
use Rattle.form.specs.Table.{row_node}
use Rattle.lines.specs.Lines.{reads_in, read_at, nodes_in, form_at}
use Rattle.names.specs.Table.{ConstsLogged}
use Rattle.sizes.specs.Sizes.{type_at, TypeLine}
use Rattle.sizes.proofs.Types.{ref-head}
use Rattle.leaf.specs.Folds.{ex_at, Foldable}
use Rattle.sizes.proofs.Forms.{type-form}
use Rattle.literals.proofs.Lines.{line-form, parts_at, makes, good-line, may-line}
use Rattle.literals.proofs.Selectors.{foldable}
use Rattle.global_table.specs.Table.{VarLine, var_on}
use Rattle.global_table.proofs.VarLine.{parts-good}
use Rattle.refs.proofs.Fields.{head-drop}

-- only arrays have an element type
elem-of-form : (ns : List Node) (fs : List Bytes) (f : ℕ) → f < 8 → (f ≡ 6 → ⊥) → None ≡ elem_of (row_node ns f fs).ty
unfolding forms
elem-of-form ns fs zero h z = refl
elem-of-form ns fs (suc zero) h z = refl
elem-of-form ns fs (suc (suc zero)) h z = refl
elem-of-form ns fs (suc (suc (suc zero))) h z = refl
elem-of-form ns fs (suc (suc (suc (suc zero)))) h z = refl
elem-of-form ns fs (suc (suc (suc (suc (suc zero))))) h z = refl
elem-of-form ns fs (suc (suc (suc (suc (suc (suc zero)))))) h z = absurd (z refl)
elem-of-form ns fs (suc (suc (suc (suc (suc (suc (suc zero))))))) h z = refl
elem-of-form ns fs (suc (suc (suc (suc (suc (suc (suc (suc f)))))))) h z = absurd (omega arith)

value-given : (ns : List Node) (r : ℕ) → (r ≡ 0 → ⊥) → ex_of (perhaps_at ns r) ≡ Some (node_at ns r).ex
value-given ns zero h = absurd (h refl)
value-given ns (suc r) h = refl

-- ---- the type

module _ {s : Bytes} {ty : ℕ} (l : TypeLine s ty) {x : Ty} (ht : type_at s ty ≡ x) {f : ℕ} (hf : f ≡ form_at s (ty - 1)) where
  pub element-none : (f ≡ 6 → ⊥) → None ≡ elem_of x
  element-none z =
      let w = line-form l in
      elem-of-form (nodes_in s) (read_at s (ty - 1)).fields f (rw hf (type-form (form_at s (ty - 1)) w.0 w.1)) z
      ∙ ap (λ (w : Node). elem_of w.ty) (sym (makes l (sym hf))) ∙ ap elem_of ht

  module _ (e : f ≡ 6) {d : ℕ} (hd : d ≡ Number.number_up_to 65536 (get_or (read_at s (ty - 1)).fields 0 [])) where
    element-ref : (d ≡ number_of (get_or (read_at s (ty - 1)).fields 0 [])) × KindLine 75 s d
    unfolding forms
    element-ref =
        let w = parts_at l (sym hf ∙ e) in
        good-line l 75 (get_or (read_at s (ty - 1)).fields 0 []) d hd (ref-head (reads_in s) (ty - 1) k_ty [] (read_at s (ty - 1)).fields w.0 w.1).0

    pub element-line : TypeLine s d
    element-line = element-ref.1

    pub element-some : Some (type_at s d) ≡ elem_of x
    unfolding forms
    element-some = sym (ap elem_of (sym ht) ∙ ap (λ (w : Node). elem_of w.ty) (makes l (sym hf ∙ e)) ∙ rw (head-drop 0 (read_at s (ty - 1)).fields, ← element-ref.0))

-- ---- the value

module _ {s : Bytes} {r : ℕ} (l : VarLine s r) where
  module _ {q : ℕ} (hq : q ≡ Number.number_up_to 65536 (get_or (read_at s (r - 1)).fields 1 [])) where
    value-ref : (q ≡ number_of (get_or (read_at s (r - 1)).fields 1 [])) × ((q ≡ 0 → ⊥) → KindLine 69 s q)
    value-ref = may-line l 69 (get_or (read_at s (r - 1)).fields 1 []) q hq (parts-good s r l).1

    pub init-none : q ≡ 0 → (var_on s r).init ≡ None
    init-none z = rw (sym value-ref.0 ∙ z)

    module _ (z : q ≡ 0 → ⊥) where
      pub value_line : KindLine 69 s q
      value_line = value-ref.1 z

      pub value-foldable : {t : Bytes} {m : ℕ} → ConstsLogged s t m → 62464 ≤ length t → Foldable s t m q 49152
      value-foldable g room = foldable {e = 0} (record { line = value_line; log = g; few = omega arith }) room

      pub init-some : (var_on s r).init ≡ Some (ex_at s q)
      init-some = rw (← value-ref.0) (value-given (nodes_in s) q z)

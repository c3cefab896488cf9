-- `alloc` lines.
use mathlib.Core.Path.{◌≡◌, refl, sym, ap, ◌∙◌}
use mathlib.Core.List.{[], ◌∷◌}
use Rattle.std.specs.Prelude as P
use Rattle.std.specs.Prelude.{Option, None, Some, IfSome}
use Prim.Native.Nat.{ℕ, zero, suc, ◌-◌, ◌≤◌}
use native.Mathlib.Omega.{arith}
use lib.ListN.{length, get_or, drop}
use lib.Seq.{get_or-drop}
use Rattle.checks.specs.Checks.{KindLine}
use Rattle.semantics.specs.Text.{Bytes}
use Rattle.semantics.specs.Tree.{Node, ElemKind}
use Rattle.semantics.specs.Tree.Ex.{array_ex}
use Rattle.semantics.specs.Tree.ArrayEx.{alloc as alloc_ex}
use Rattle.semantics.specs.Form.{number_of, forms}
use Rattle.semantics.specs.Form.Kind.{k_ty, k_ex}
use Rattle.semantics.specs.Form.Atom.{ref}
use Rattle.semantics.specs.Form.Part.{one}
use Rattle.semantics.specs.Fold.{bind}
use Rattle.semantics.specs.Array.{elem_kind, allocated, const_array}
use Rattle.decimal.specs.Number as Number
use Rattle.lines.specs.Lines.{reads_in, read_at}
use Rattle.sizes.specs.Sizes.{type_at, TypeLine}
use Rattle.refs.proofs.Fields.{head-drop, tail-drop}
use Rattle.sizes.proofs.Types.{Good, ref-head}
use Rattle.values.specs.declared.ConstVal.{ConstVal}
use Rattle.values.specs.Values.{result_in, Outcome}
use Rattle.names.specs.Table.{ConstsLogged, names_in}
use Rattle.placements.proofs.Same.{keeps-less, keeps-kept}
use Rattle.leaf.specs.Folds.{ex_at, Foldable, Folds}
use Rattle.literals.proofs.Lines.{parts_at, makes, good-line}
use Rattle.literals.proofs.Selectors.{foldable, folds-to}
use Rattle.arrays.specs.declared.Arrayed.{Arrayed}
use Rattle.arrays.specs.declared.NoItem.{NoItem}
use Rattle.arrays.specs.Arrays.{ArrayResult, ArrayAnswers, type_of, declared_type, alloc_type, AllocLine}

pub type-given : (s : Bytes) (r : ℕ) → (r ≡ 0 → ⊥) → type_of s r ≡ Some (type_at s r)
type-given s zero h = absurd (h refl)
type-given s (suc r) h = refl

module _ {s : Bytes} {declared : Option ℕ} {r : ℕ} (k : AllocLine s declared r) where
  l : KindLine 69 s r
  l = k.array.line

  alloc-refs : Good (reads_in s) (r - 1) 69 (get_or (read_at s (r - 1)).fields 0 []) × Good (reads_in s) (r - 1) 75 (get_or (read_at s (r - 1)).fields 1 [])
  unfolding forms
  alloc-refs =
      let w = parts_at l k.form in
      let x = ref-head (reads_in s) (r - 1) k_ex (one (ref k_ty) ∷ []) (read_at s (r - 1)).fields w.0 w.1 in
      let y = ref-head (reads_in s) (r - 1) k_ty [] (drop 1 (read_at s (r - 1)).fields) x.1 x.2 in
      (x.0, rw (get_or-drop 1 (read_at s (r - 1)).fields 0 []) at y.0)

  alloc-is : ex_at s r ≡ array_ex (alloc_ex (ex_at s (number_of (get_or (read_at s (r - 1)).fields 0 []))) (type_at s (number_of (get_or (read_at s (r - 1)).fields 1 []))))
  unfolding forms
  alloc-is =
      let fs = (read_at s (r - 1)).fields in
      ap (λ (x : Node). x.ex) (makes l k.form) ∙ rw (tail-drop 0 fs, head-drop 0 fs, head-drop 1 fs)

  module _ {v : ℕ} (hv : v ≡ Number.number_up_to 65536 (get_or (read_at s (r - 1)).fields 1 [])) where
    pub own_line : TypeLine s v
    own_line = (good-line l 75 (get_or (read_at s (r - 1)).fields 1 []) v hv alloc-refs.1).1

    pub own-kind : {x : ElemKind} → declared ≡ None → x ≡ elem_kind (type_at s v) → x ≡ elem_kind (alloc_type s declared r)
    own-kind h e = rw h (rw (good-line l 75 (get_or (read_at s (r - 1)).fields 1 []) v hv alloc-refs.1).0 at e)

  module _ {q : ℕ} (hq : q ≡ Number.number_up_to 65536 (get_or (read_at s (r - 1)).fields 0 [])) where
    length-line : (q ≡ number_of (get_or (read_at s (r - 1)).fields 0 [])) × KindLine 69 s q
    length-line = good-line l 69 (get_or (read_at s (r - 1)).fields 0 []) q hq alloc-refs.0

    pub length-foldable : {t : Bytes} {m : ℕ} → ConstsLogged s t m → 62464 ≤ length t → Foldable s t m q 49152
    length-foldable g = foldable {e = 0} (record { line = length-line.1; log = g; few = omega arith })

    pub alloc-answers : {t : Bytes} {m : ℕ} {kind : ElemKind} → kind ≡ elem_kind (alloc_type s declared r) → {u : Bytes} {x : Outcome ConstVal} → Folds s t m 0 q 49152 u x
        → {y : P.Result Arrayed NoItem} → ArrayResult u (bind (result_in u x) (allocated kind)) y → ArrayAnswers t (const_array (names_in s t m) (declared_type s declared) (ex_at s r)) y u
    alloc-answers e g h = record {
      array = record { result = rw (folds-to g, e) at h.result ∙ sym (rw (alloc-is, ← length-line.0)); stands = h.stands };
      keeps = keeps-less (omega arith) (omega arith) (keeps-kept {a = 0} (omega arith) g.kept);
    }

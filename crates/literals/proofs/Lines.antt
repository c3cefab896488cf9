-- The fields of a literal's lines, the lines that they refer to, and what the lines make.
use mathlib.Core.Path.{◌≡◌, refl, sym, ap, ◌∙◌}
use mathlib.Core.Bool.{Bool, true, false}
use mathlib.Core.List.{List, [], ◌∷◌}
use Prim.Native.Nat.{ℕ, zero, suc, ◌+◌, ◌-◌, ◌≤◌, ◌<◌}
use native.Mathlib.Omega.{arith}
use lib.Dec.{eqb}
use lib.ListN.{drop, get_or}
use lib.Seq.{get_or-drop}
use borrow.Author.Tests.{eqb-true, eqb-false}
use Rattle.checks.specs.Checks.{KindLine}
use Rattle.semantics.specs.Text.{Bytes}
use Rattle.semantics.specs.Tree.{Ex, Node}
use Rattle.semantics.specs.Tree.MaybeEx.{absent, given}
use Rattle.semantics.specs.Tree.El.{next, star, at}
use Rattle.semantics.specs.Array.{el_value}
use Rattle.semantics.specs.Form.{Row, forms, number_of, fits, node_at, perhaps_at, values, maybe_ex, ses_of}
use Rattle.semantics.specs.Form.Kind.{k_ex, k_se}
use Rattle.semantics.specs.Form.Atom.{ref, maybe}
use Rattle.semantics.specs.Form.Part.{one, many}
use Rattle.semantics.specs.Refusal.{refs_in}
use Rattle.decimal.specs.Number as Number
use Rattle.form.specs.Table.{row_at, kind_at, row_node}
use Rattle.lines.specs.Lines.{lines_in, reads_in, read_at, nodes_in, form_at}
use Rattle.lines.proofs.Line.{form-low, form-is, kind-is, read_fits}
use Rattle.refs.specs.Refs.{fine_refs}
use Rattle.refs.proofs.Fine.{needed-ref}
use Rattle.refs.proofs.Nodes.{node-at}
use Rattle.refs.proofs.Fields.{number-exact, count-exact, head-drop, tail-drop}
use Rattle.sizes.proofs.Forms.{element-form, selector-form}
use Rattle.sizes.proofs.Types.{given-ref, Good, May, ref-head, maybe-head, CountedRefs, group_at}
use Rattle.leaf.specs.Folds.{ex_at}
use Rattle.literals.specs.Literals.{el_at, se_at}

-- ---- the lines that are referred to

module _ {k : ℕ} {s : Bytes} {r : ℕ} (l : KindLine k s r) where
  pub line-in : r - 1 < lines_in s
  line-in = omega (arith, l.first, l.last)

  pub line-form : (form_at s (r - 1) < 42) × (kind_at (form_at s (r - 1)) ≡ k)
  line-form = (form-low s l.checked.whole (r - 1) line-in, sym (kind-is s l.checked.whole (r - 1) line-in) ∙ l.kind)

  pub parts_at : {f : ℕ} → form_at s (r - 1) ≡ f → (fits (row_at f).parts (read_at s (r - 1)).fields ≡ true) × (fine_refs (reads_in s) (r - 1) (refs_in (row_at f).parts (read_at s (r - 1)).fields) ≡ true)
  parts_at {f} e =
      let w = l.checked.whole in
      let p : (read_at s (r - 1)).form.parts ≡ (row_at f).parts = ap (λ (x : Row). x.parts) (form-is s w (r - 1) line-in) ∙ ap (λ (g : ℕ). (row_at g).parts) e in
      (rw e at (read_fits s w (r - 1) line-in), rw p at (l.checked.fine (r - 1) line-in))

  pub makes : {f : ℕ} → form_at s (r - 1) ≡ f → node_at (nodes_in s) r ≡ row_node (nodes_in s) f (read_at s (r - 1)).fields
  makes e = node-at s l.checked.whole l.checked.good (r - 1) line-in ∙ ap (λ (g : ℕ). row_node (nodes_in s) g (read_at s (r - 1)).fields) e

  module _ (q : ℕ) (f : Bytes) (v : ℕ) (hv : v ≡ Number.number_up_to 65536 f) where
    pub good-line : Good (reads_in s) (r - 1) q f → (v ≡ number_of f) × KindLine q s v
    good-line g =
        let w = needed-ref (reads_in s) (r - 1 + 1) q (number_of f) g.fine in
        let e : v ≡ number_of f = hv ∙ number-exact f g.number (omega (arith, w.1, l.last, l.checked.whole.few)) in
        (e, rw e (record { checked = l.checked; first = omega (arith, w.0); last = omega (arith, w.1, l.first, l.last); kind = w.2 }))

    pub may-line : May (reads_in s) (r - 1) q f → (v ≡ number_of f) × ((v ≡ 0 → ⊥) → KindLine q s v)
    may-line g = go (eqb (number_of f) 0) refl
      where
        go : (b : Bool) → eqb (number_of f) 0 ≡ b → (v ≡ number_of f) × ((v ≡ 0 → ⊥) → KindLine q s v)
        go true d =
            let z = eqb-true (number_of f) 0 d in
            let e : v ≡ number_of f = hv ∙ number-exact f g.number (omega arith) in
            (e, λ y. absurd (y (e ∙ z)))
        go false d =
            let z = eqb-false (number_of f) 0 d in
            let w = given-ref (reads_in s) (r - 1 + 1) q (number_of f) g.fine z in
            let e : v ≡ number_of f = hv ∙ number-exact f g.number (omega (arith, w.0, l.last, l.checked.whole.few)) in
            (e, λ y. rw e (record { checked = l.checked; first = omega (arith, z); last = omega (arith, w.0, l.first, l.last); kind = w.1 }))

  pub count-is : {j q : ℕ} {v : ℕ} → CountedRefs (reads_in s) (r - 1) q j (read_at s (r - 1)).fields → v ≡ Number.number_up_to 65536 (get_or (read_at s (r - 1)).fields j []) → (v ≡ number_of (get_or (read_at s (r - 1)).fields j [])) × (v ≤ 16)
  count-is {j} g = count-exact (get_or (read_at s (r - 1)).fields j []) g.count

-- an optional expression
pub maybe-given : (ns : List Node) (v : ℕ) → (v ≡ 0 → ⊥) → maybe_ex (perhaps_at ns v) ≡ given (node_at ns v).ex
maybe-given ns zero h = absurd (h refl)
maybe-given ns (suc v) h = refl

pub maybe-absent : (ns : List Node) (v : ℕ) → v ≡ 0 → maybe_ex (perhaps_at ns v) ≡ absent
maybe-absent ns v e = rw e

-- ---- selectors

module _ {s : Bytes} {r : ℕ} (l : KindLine 74 s r) where
  se-form : form_at s (r - 1) ≡ 23
  se-form = let w = line-form l in selector-form (form_at s (r - 1)) w.0 w.1

  pub se-refs : Good (reads_in s) (r - 1) 69 (get_or (read_at s (r - 1)).fields 0 []) × May (reads_in s) (r - 1) 69 (get_or (read_at s (r - 1)).fields 1 [])
  unfolding forms
  se-refs =
      let w = parts_at l se-form in
      let x = ref-head (reads_in s) (r - 1) k_ex (one (maybe k_ex) ∷ []) (read_at s (r - 1)).fields w.0 w.1 in
      let y = maybe-head (reads_in s) (r - 1) k_ex [] (drop 1 (read_at s (r - 1)).fields) x.1 x.2 in
      (x.0, rw (get_or-drop 1 (read_at s (r - 1)).fields 0 []) at y.0)

  pub se-is : se_at s r ≡ record { low = ex_at s (number_of (get_or (read_at s (r - 1)).fields 0 [])); high = maybe_ex (perhaps_at (nodes_in s) (number_of (get_or (read_at s (r - 1)).fields 1 []))) }
  unfolding forms
  se-is = ap (λ (x : Node). x.se) (makes l se-form) ∙ rw (tail-drop 0 (read_at s (r - 1)).fields, head-drop 0 (read_at s (r - 1)).fields, head-drop 1 (read_at s (r - 1)).fields)

-- ---- elements

module _ {s : Bytes} {r : ℕ} (l : KindLine 76 s r) where
  -- 20 a plain element, 21 a wildcard, 22 one with selectors
  by-form : {P : Type 0} → (form_at s (r - 1) ≡ 20 → P) → (form_at s (r - 1) ≡ 21 → P) → (form_at s (r - 1) ≡ 22 → P) → P
  by-form {P} a b c = let w = line-form l in let x = element-form (form_at s (r - 1)) w.0 w.1 in go (eqb (form_at s (r - 1)) 20) refl (eqb (form_at s (r - 1)) 21) refl x.0 x.1
    where
      go : (p : Bool) → eqb (form_at s (r - 1)) 20 ≡ p → (q : Bool) → eqb (form_at s (r - 1)) 21 ≡ q → 20 ≤ form_at s (r - 1) → form_at s (r - 1) < 23 → P
      go true d q e x y = a (eqb-true (form_at s (r - 1)) 20 d)
      go false d true e x y = b (eqb-true (form_at s (r - 1)) 21 e)
      go false d false e x y = c (omega (arith, eqb-false (form_at s (r - 1)) 20 d, eqb-false (form_at s (r - 1)) 21 e))

  pub last-form : (form_at s (r - 1) ≡ 20 → ⊥) → (form_at s (r - 1) ≡ 21 → ⊥) → form_at s (r - 1) ≡ 22
  last-form a b = by-form (λ e. absurd (a e)) (λ e. absurd (b e)) (λ e. e)

  abbrev value_ex : Ex
  value_ex = ex_at s (number_of (get_or (read_at s (r - 1)).fields 0 []))

  module _ (e : form_at s (r - 1) ≡ 22) where
    at-refs : Good (reads_in s) (r - 1) 69 (get_or (read_at s (r - 1)).fields 0 []) × CountedRefs (reads_in s) (r - 1) 74 1 (read_at s (r - 1)).fields
    unfolding forms
    at-refs =
        let w = parts_at l e in
        let x = ref-head (reads_in s) (r - 1) k_ex (many (ref k_se) ∷ []) (read_at s (r - 1)).fields w.0 w.1 in
        (x.0, group_at (reads_in s) (r - 1) 1 k_se [] (read_at s (r - 1)).fields x.1 x.2)

    pub selectors : CountedRefs (reads_in s) (r - 1) 74 1 (read_at s (r - 1)).fields
    selectors = at-refs.1

    pub el-at : el_at s r ≡ at value_ex (ses_of (values (ref k_se) (nodes_in s) (number_of (get_or (read_at s (r - 1)).fields 1 [])) (drop 2 (read_at s (r - 1)).fields)))
    unfolding forms
    el-at = ap (λ (x : Node). x.el) (makes l e) ∙ rw (tail-drop 0 (read_at s (r - 1)).fields, tail-drop 1 (read_at s (r - 1)).fields, head-drop 0 (read_at s (r - 1)).fields, head-drop 1 (read_at s (r - 1)).fields)

  pub el-next : form_at s (r - 1) ≡ 20 → el_at s r ≡ next value_ex
  unfolding forms
  el-next e = ap (λ (x : Node). x.el) (makes l e) ∙ rw (head-drop 0 (read_at s (r - 1)).fields)

  pub el-star : form_at s (r - 1) ≡ 21 → el_at s r ≡ star value_ex
  unfolding forms
  el-star e = ap (λ (x : Node). x.el) (makes l e) ∙ rw (head-drop 0 (read_at s (r - 1)).fields)

  pub el-value : el_value (el_at s r) ≡ value_ex
  el-value = by-form (λ e. ap el_value (el-next e)) (λ e. ap el_value (el-star e)) (λ e. ap el_value (el-at e))

  pub value-ref : Good (reads_in s) (r - 1) 69 (get_or (read_at s (r - 1)).fields 0 [])
  unfolding forms
  value-ref =
      by-form
      (λ e. let w = parts_at l e in (ref-head (reads_in s) (r - 1) k_ex [] (read_at s (r - 1)).fields w.0 w.1).0)
      (λ e. let w = parts_at l e in (ref-head (reads_in s) (r - 1) k_ex [] (read_at s (r - 1)).fields w.0 w.1).0)
      (λ e. (at-refs e).0)

-- Laws of names, of the implemented module and of the open one.
use mathlib.Core.Path.{◌≡◌, refl, sym, ap, ◌∙◌}
use mathlib.Core.Bool.{Bool, true, false, cond, not, ◌&&◌, ◌||◌}
use mathlib.Core.List.{[], ◌∷◌, append-nil}
use Rattle.std.specs.Prelude.{Option, None, Some}
use Prim.Native.Nat.{ℕ, zero, suc, ◌+◌, ◌-◌, ◌≤◌, ◌<◌}
use native.Mathlib.Omega.{arith}
use native.Mathlib.Numerals.{add-one}
use lib.Dec.{leb, ltb, eqb}
use lib.ListN.{length, get_or}
use borrow.Author.Tests.{eq-eqb, ne_eqb, not-true}
use Rattle.semantics.specs.Text.{Bytes, same}
use Rattle.semantics.specs.Tree.{Declares}
use Rattle.semantics.specs.Form as Form
use Rattle.semantics.specs.Sheet.{Source, opened, open_after, sheet_source, first_of}
use Rattle.semantics.specs.Fold.{same_option}
use Rattle.form.specs.Table.{kind_at}
use Rattle.semantics.proofs.Common.{both}
use Rattle.lines.specs.Lines.{lines_in, text_at, read_at, nodes_in, form_at}
use Rattle.lines.proofs.Line.{read_is, kind-is}
use Rattle.refs.proofs.Nodes.{node-count}
use Rattle.checks.specs.Checks.{Checked}
use Rattle.source.specs.Walk.{declares_at, open_at, declared_to, by_kind}
use Rattle.source.proofs.Walk.{declared-all, source-of}
use Rattle.source.proofs.Declares.{line-declares}
use Rattle.implement.specs.Modules.{first_field, module_at, own_in, line_number, is_own, Open}

-- ---- the implemented module

-- the kind of a line, by its form
kind-by : (s : Bytes) → Checked s → (i : ℕ) → i < lines_in s → {f x : ℕ} → f ≡ form_at s i → x ≡ kind_at f → x ≡ Form.letter (read_at s i).form.kind
kind-by s c i h e g = g ∙ ap kind_at e ∙ sym (kind-is s c.whole i h)

module _ (s : Bytes) (c : Checked s) where
  no-impl : (i : ℕ) → i < lines_in s → 0 < i → eqb (Form.letter (read_at s i).form.kind) 73 ≡ false
  unfolding Form.formed
  no-impl i h p =
      let g = c.whole.good i h in
      let r = Form.read_of (text_at s i) in
      let w = (both (leb (length (text_at s i)) 255 && ltb (Form.row_of Form.forms (text_at s i)) (length Form.forms) && Form.fits r.form.parts r.fields) (eqb (i + 1) 1 || not (eqb (Form.letter r.form.kind) 73)) g).1 in
      let z : eqb (i + 1) 1 ≡ false = ne_eqb (i + 1) 1 (λ e. omega arith) in
      ap (λ (q : Form.Read). eqb (Form.letter q.form.kind) 73) (read_is s c.whole i h) ∙ not-true (eqb (Form.letter r.form.kind) 73) (rw z at w)

  implements-at : (i : ℕ) → i < lines_in s → (declares_at (nodes_in s) i).implements ≡ cond (eqb (Form.letter (read_at s i).form.kind) 73) (get_or (read_at s i).fields 0 [] ∷ []) []
  unfolding by_kind
  implements-at i h = ap (λ (d : Declares). d.implements) (line-declares s c i h)

  implements-first : (i : ℕ) → i < lines_in s → declared_to (λ (d : Declares). d.implements) (nodes_in s) (suc i) ≡ cond (eqb (Form.letter (read_at s 0).form.kind) 73) (first_field s 1 ∷ []) []
  unfolding declared_to
  implements-first zero h = implements-at 0 h
  implements-first (suc i) h =
      rw (implements-first i (omega arith), implements-at (suc i) h, no-impl (suc i) h (omega arith)) (append-nil (cond (eqb (Form.letter (read_at s 0).form.kind) 73) (first_field s 1 ∷ []) []))

  implement-is : 0 < lines_in s → (sheet_source s).implement ≡ cond (eqb (Form.letter (read_at s 0).form.kind) 73) (Some (first_field s 1)) None
  implement-is h =
      let e : length (nodes_in s) ≡ suc (lines_in s - 1) = node-count s c.whole ∙ omega arith in
      ap (λ (o : Source). o.implement) (source-of s)
      ∙ ap first_of (declared-all (λ (d : Declares). d.implements) (nodes_in s) ∙ ap (declared_to (λ (d : Declares). d.implements) (nodes_in s)) e ∙ implements-first (lines_in s - 1) (omega arith))
      ∙ go (eqb (Form.letter (read_at s 0).form.kind) 73)
    where
      go : (b : Bool) → first_of (cond b (first_field s 1 ∷ []) []) ≡ cond b (Some (first_field s 1)) None
      go true = refl
      go false = refl

  -- whether a name is that of the implemented module
  module _ (q : Bytes) where
    pub implemented-none : lines_in s ≡ 0 → false ≡ same_option (sheet_source s).implement (Some q)
    unfolding declared_to
    implemented-none z =
        let e : length (nodes_in s) ≡ 0 = node-count s c.whole ∙ z in
        let f : (sheet_source s).implement ≡ None = ap (λ (o : Source). o.implement) (source-of s) ∙ ap first_of (declared-all (λ (d : Declares). d.implements) (nodes_in s) ∙ ap (declared_to (λ (d : Declares). d.implements) (nodes_in s)) e) in
        rw f

    module _ (h : 0 < lines_in s) {f x : ℕ} (hf : f ≡ form_at s 0) (hx : x ≡ kind_at f) where
      pub implemented-not : (x ≡ 73 → ⊥) → false ≡ same_option (sheet_source s).implement (Some q)
      implemented-not z = rw (implement-is h, ← kind-by s c 0 h hf hx, ne_eqb x 73 z)

      pub implemented-by : x ≡ 73 → same (first_field s 1) q ≡ same_option (sheet_source s).implement (Some q)
      implemented-by z = rw (implement-is h, ← kind-by s c 0 h hf hx, eq-eqb x 73 z)

-- ---- the open module

module _ (s : Bytes) (i : ℕ) (k : Option ℕ) (o : Open s i k) (h : i < lines_in s) (f x : ℕ) (hf : f ≡ form_at s i) (hx : x ≡ kind_at f) where
  behind : open_at (nodes_in s) (i + 1) ≡ cond (eqb x 79) None (opened (suc i) (cond (eqb x 77) (get_or (read_at s i).fields 0 [] ∷ []) []) (open_at (nodes_in s) i))
  unfolding open_at by_kind
  behind = rw (add-one, kind-by s o.checked i h hf hx) (ap (λ (d : Declares). open_after (suc i) d (open_at (nodes_in s) i)) (line-declares s o.checked i h))

  opens : {j : Option ℕ} → line_number j ≤ lines_in s → module_at s (line_number j) ≡ open_at (nodes_in s) (i + 1) → Open s (i + 1) j
  opens l e = record { checked = o.checked; within = omega arith; low = l; here = e }

  pub open-mod : x ≡ 77 → Open s (i + 1) (Some i)
  unfolding module_at
  open-mod e = let z : suc i - 1 ≡ i = omega arith in opens (omega arith) (rw (behind, e, z))

  pub open-end : x ≡ 79 → Open s (i + 1) None
  unfolding module_at
  open-end e = opens (omega arith) (rw (behind, e))

  pub open-other : (x ≡ 77 → ⊥) → (x ≡ 79 → ⊥) → Open s (i + 1) k
  open-other a b = opens o.low (o.here ∙ sym (rw (behind, ne_eqb x 77 a, ne_eqb x 79 b)))

-- ---- the sheet's own

pub own-outside : (s : Bytes) {k : Option ℕ} → k ≡ None → true ≡ is_own s (line_number k)
unfolding module_at
own-outside s e = rw e

pub own-within : (s : Bytes) {k : Option ℕ} {i : ℕ} {b : Bool} → k ≡ Some i → b ≡ same_option (sheet_source s).implement (Some (get_or (read_at s i).fields 0 [])) → b ≡ is_own s (line_number k)
unfolding module_at
own-within s {i = i} z e = let q : suc i - 1 ≡ i = omega arith in rw (z, q) e

-- the same of the module that is open before line i
pub own_open : {s : Bytes} {i : ℕ} {k : Option ℕ} {b : Bool} → Open s i k → b ≡ is_own s (line_number k) → own_in (sheet_source s).implement (open_at (nodes_in s) i) ≡ b
own_open {s} o e = ap (own_in (sheet_source s).implement) (sym o.here) ∙ sym e

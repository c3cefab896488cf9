-- The needs of the first lines, and how many there are.
use mathlib.Core.Path.{◌≡◌, sym, ap, ◌∙◌}
use mathlib.Core.List.{List, [], ◌∷◌, ◌++◌, append-nil}
use Prim.Native.Nat.{ℕ, ◌+◌, ◌-◌, ◌≤◌, ◌<◌}
use native.Mathlib.Omega.{arith}
use native.Mathlib.Numerals.{add-one}
use lib.ListN.{length}
use borrow.Author.Tests.{eq-eqb, ne_eqb}
use Rattle.semantics.specs.Tree.{Declares}
use Rattle.semantics.specs.Form.{letter}
use Rattle.semantics.specs.Sheet.{sheet_source}
use Rattle.lines.specs.Lines.{lines_in, read_at, nodes_in}
use Rattle.refs.proofs.Nodes.{node-count}
use Rattle.checks.specs.Checks.{Checked}
use Rattle.source.specs.Walk.{declared_to}
use Rattle.source.proofs.Walk.{declared-all, source-of, declared-more}
use Rattle.type_lines.specs.Needs.{need_at, needs_to}
use Rattle.type_lines.proofs.Forms.{needs-line}

module _ (s : List ℕ) (c : Checked s) where
  pub needs-all : needs_to s (lines_in s) ≡ (sheet_source s).needs
  needs-all = rw (source-of s, declared-all (λ (d : Declares). d.needs) (nodes_in s), node-count s c.whole)

  pub needs-few : (i : ℕ) → i ≤ lines_in s → length (needs_to s i) ≤ 128
  needs-few i h =
      let z : i + (lines_in s - i) ≡ lines_in s = omega arith in
      let e : length (needs_to s i) ≤ length (needs_to s (lines_in s)) = rw z at (declared-more (λ (d : Declares). d.needs) (nodes_in s) i (lines_in s - i)) in
      let g : needs_to s (lines_in s) ≡ _ = sym (declared-all (λ (d : Declares). d.needs) (nodes_in s) ∙ rw (node-count s c.whole)) in
      omega (arith, e, ap length g, c.bounds.needs)

  module _ (i : ℕ) (h : i < lines_in s) where
    pub needs-next : letter (read_at s i).form.kind ≡ 78 → needs_to s (i + 1) ≡ needs_to s i ++ (need_at s i ∷ [])
    unfolding declared_to
    needs-next e = rw (add-one i, needs-line s c i h, eq-eqb (letter (read_at s i).form.kind) 78 e)

    pub needs_stay : (letter (read_at s i).form.kind ≡ 78 → ⊥) → needs_to s (i + 1) ≡ needs_to s i
    unfolding declared_to
    needs_stay e = rw (add-one i, needs-line s c i h, ne_eqb (letter (read_at s i).form.kind) 78 e) (append-nil (needs_to s i))

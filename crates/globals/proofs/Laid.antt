-- Which lines count, line by line.
use mathlib.Core.Path.{◌≡◌, ap}
use mathlib.Core.Bool.{Bool, true, false, cond}
use mathlib.Core.List.{List, [], ◌∷◌}
use Rattle.std.specs.Prelude.{Option, Some}
use Prim.Native.Nat.{ℕ, suc, ◌+◌, ◌-◌, ◌<◌}
use native.Mathlib.Omega.{arith}
use lib.Dec.{eqb}
use Rattle.semantics.specs.Text.{Bytes}
use Rattle.semantics.specs.Tree.{VarDecl}
use Rattle.semantics.specs.Form.{letter}
use Rattle.semantics.specs.Sheet.{Located, sheet_source}
use Rattle.lines.specs.Lines.{lines_in, read_at, nodes_in, form_at}
use Rattle.source.specs.Walk.{open_at}
use Rattle.implement.specs.Modules.{Open, own_in, line_number, is_own}
use Rattle.implement.proofs.Modules.{own_open}
use Rattle.global_table.proofs.VarLine.{kind-other, kind-var}
use Rattle.globals.specs.Vars.{located_at, laid_at, laid_on}
use Rattle.global_table.specs.Table.{VarLine}

module _ {s : Bytes} {i : ℕ} {k : Option ℕ} (o : Open s i k) (l : i < lines_in s) {f : ℕ} (hf : f ≡ form_at s i) where
  pub laid-other : (f ≡ 29 → ⊥) → [] ≡ laid_at s i
  laid-other z = rw (kind-other s o.checked.whole i l hf z)

  module _ (e : f ≡ 29) {b : Bool} (hb : b ≡ is_own s (line_number k)) where
    is-var : letter (read_at s i).form.kind ≡ 72
    is-var = kind-var s o.checked.whole i l hf e

    pub laid-skipped : b ≡ false → [] ≡ laid_at s i
    laid-skipped q = rw (is-var, own_open o hb, q)

    pub laid-here : b ≡ true → (laid_on s (Some (i + 1)) ≡ laid_at s i) × VarLine s (i + 1)
    laid-here q =
        let z : i + 1 - 1 ≡ i = omega arith in
        (rw (z, is-var, own_open o hb, q), record { checked = o.checked; first = omega arith; last = omega arith; kind = rw z is-var })

-- ---- a line that counts, by its number

-- the number of the first line, 0 where there is none
abbrev first_line : List (Located VarDecl) → ℕ
first_line [] = 0
first_line (v ∷ vs) = v.line

pub laid-number : (s : Bytes) (i r : ℕ) → laid_on s (Some r) ≡ laid_at s i → r - 1 ≡ i
laid-number s i r e = go (eqb (letter (read_at s i).form.kind) 72) (own_in (sheet_source s).implement (open_at (nodes_in s) i)) (ap first_line e)
  where
    go : (x y : Bool) → suc (r - 1) ≡ first_line (cond x (cond y (located_at s i ∷ []) []) []) → r - 1 ≡ i
    go true true d = omega arith
    go true false d = absurd (omega arith)
    go false y d = absurd (omega arith)

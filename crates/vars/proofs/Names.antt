-- The names of a `var` line, from any on.
use mathlib.Core.Path.{◌≡◌, sym, ap, ◌∙◌}
use mathlib.Core.Bool.{Bool, true, false, not}
use mathlib.Core.List.{List, [], ◌∷◌}
use Prim.Native.Nat.{ℕ, suc, ◌+◌, ◌-◌, ◌≤◌, ◌<◌}
use native.Mathlib.Omega.{arith}
use lib.ListN.{length, get_or, drop}
use Rattle.semantics.specs.Text.{Bytes, bytes, same}
use Rattle.semantics.specs.Form.{values, number_of}
use Rattle.semantics.specs.Form.Atom.{name}
use Rattle.semantics.specs.Global.{laid_names, none_of}
use Rattle.lines.specs.Lines.{read_at, nodes_in}
use Rattle.global_table.specs.Table.{name_on, names_on}
use Rattle.global_table.proofs.VarLine.{names-count}
use Rattle.refs.proofs.Fields.{head-drop, tail-drop}

-- those from j on, of `count`
abbrev pub names_from : Bytes → ℕ → ℕ → ℕ → List Bytes
names_from s r count j = values name (nodes_in s) (count - j) (drop (3 + j) (read_at s (r - 1)).fields)

pub names-step : (s : Bytes) (r count j : ℕ) → j < count → names_from s r count j ≡ name_on s r j ∷ names_from s r count (j + 1)
names-step s r count j h =
    let e : count - j ≡ suc (count - (j + 1)) = omega arith in
    let z : suc (3 + j) ≡ 3 + (j + 1) = omega arith in
    let fs = (read_at s (r - 1)).fields in
    ap (λ (k : ℕ). values name (nodes_in s) k (drop (3 + j) fs)) e ∙ rw (head-drop (3 + j) fs, tail-drop (3 + j) fs, z)

pub names-over : (s : Bytes) (r count j : ℕ) → count ≤ j → names_from s r count j ≡ []
names-over s r count j h = let e : count - j ≡ 0 = omega arith in rw e

pub names-all : (s : Bytes) (r : ℕ) {count : ℕ} → count ≡ length (names_on s r) → names_from s r count 0 ≡ names_on s r
names-all s r {count} hc =
    let z : count - 0 ≡ number_of (get_or (read_at s (r - 1)).fields 2 []) = omega (arith, hc, names-count s r) in
    ap (λ (k : ℕ). values name (nodes_in s) k (drop 3 (read_at s (r - 1)).fields)) z

-- ---- whether one of them is laid out

-- none of the first j is
pub record NoneLaid (s : Bytes) (r count j : ℕ) : Type 0 where
  pub same : laid_names (names_on s r) ≡ laid_names (names_from s r count j)

module _ {s : Bytes} {r count j : ℕ} (a : NoneLaid s r count j) where
  pub searched : count ≤ j → false ≡ not (none_of (laid_names (names_on s r)))
  searched h = sym (rw (a.same, names-over s r count j h))

  module _ (h : j < count) {x : Bytes} (hx : x ≡ name_on s r j) {b : Bool} (hb : b ≡ same x (bytes "nil")) where
    nil_is : same (name_on s r j) (bytes "nil") ≡ b
    nil_is = sym (hb ∙ rw hx)

    pub search-found : b ≡ false → true ≡ not (none_of (laid_names (names_on s r)))
    search-found e = let i = nil_is ∙ e in sym (rw (a.same, names-step s r count j h, i))

    pub search-on : b ≡ true → NoneLaid s r count (j + 1)
    search-on e = let i = nil_is ∙ e in record { same = a.same ∙ rw (names-step s r count j h, i) }

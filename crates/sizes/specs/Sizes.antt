-- The types of a checked sheet's lines, and what is measured of them.
use Rattle.std.specs.Prelude.{ℕ, ◌-◌, ◌≤◌, ◌≡◌, Bool, ◌||◌, eqb}
use Rattle.semantics.specs.Text.{Bytes}
use Rattle.semantics.specs.Tree.{Ty}
use Rattle.semantics.specs.Form.{node_at}
use Rattle.semantics.specs.Layout.{size_of, align_of}
use Rattle.lines.specs.Lines.{nodes_in, form_at}
use Rattle.checks.specs.Checks.{KindLine}

-- form 2 is big, and 3 real
abbrev pub is_long : ℕ → Bool
is_long f = eqb f 2 || eqb f 3

-- the type that line r makes, from 1
abbrev pub type_at : Bytes → ℕ → Ty
type_at s r = (node_at (nodes_in s) r).ty

-- line r of a checked sheet is a `ty` line, 75
abbrev pub TypeLine : Bytes → ℕ → Type 0
TypeLine s r = KindLine 75 s r

-- and a tuple's
pub record TupleLine (s : Bytes) (r : ℕ) : Type 0 where
  pub line : TypeLine s r
  pub form : form_at s (r - 1) ≡ 7

-- the size and the alignment of a type, with bounds that hold of every type of a checked sheet
pub record Measures (t : Ty) (size align : ℕ) : Type 0 where
  pub whole : size ≡ size_of t
  pub step : align ≡ align_of t
  pub small : size ≤ 8192
  pub low : align ≤ 8

-- Expressions of a checked sheet's lines, and what folds of them ask and leave.
use Rattle.std.specs.Prelude.{ℕ, ◌+◌, ◌-◌, ◌*◌, ◌≤◌, ◌<◌, ◌≡◌, cond, [], eqb, pos, length, Result, Option}
use Rattle.std.specs.Float.{binary64}
use Rattle.std.specs.Float.Ieee.{of_bits}
use Rattle.semantics.specs.Text.{Bytes, or_else, int_of, unhex, from_big_endian}
use Rattle.semantics.specs.Tree as Tree
use Rattle.semantics.specs.Tree.{Ex}
use Rattle.semantics.specs.Tree.ConstVal.{v_int, v_real, v_str}
use Rattle.semantics.specs.Form.{node_at}
use Rattle.semantics.specs.Fold as Fold
use Rattle.semantics.specs.Fold.{fold}
use Rattle.lines.specs.Lines.{reads_in, nodes_in, form_at}
use Rattle.nesting.specs.Nesting.{depth_of}
use Rattle.checks.specs.Checks.{Kept, KindLine}
use Rattle.values.specs.declared.ConstVal.{ConstVal}
use Rattle.values.specs.declared.NoValue.{NoValue}
use Rattle.values.specs.Values.{Answers}
use Rattle.names.specs.Table.{names_in, ConstsLogged, Answered}

-- the expression of line r, from 1
abbrev pub ex_at : Bytes → ℕ → Ex
ex_at s r = (node_at (nodes_in s) r).ex

-- what it folds to, where the first m constants are known
unfoldable pub fold_at : Bytes → Bytes → ℕ → ℕ → ℕ → Fold.Result Tree.ConstVal
fold_at s t m iota r = fold (names_in s t m) (pos iota) (ex_at s r)

-- line r of a checked sheet is an `ex` line, 69
abbrev pub ExLine : Bytes → ℕ → Type 0
ExLine s r = KindLine 69 s r

-- what a fold of line r asks: constants in their table, and from `top` on room for a string at each step down
pub record Foldable (s t : Bytes) (m r top : ℕ) : Type 0 where
  pub line : ExLine s r
  pub log : ConstsLogged s t m
  pub low : 49152 ≤ top
  pub room : top + 256 * depth_of (reads_in s) (r - 1) ≤ length t

-- what it leaves: x is what line r folds to, in the working space u
pub record Folds (s t : Bytes) (m iota r top : ℕ) (u : Bytes) (x : Result ConstVal NoValue) : Type 0 where
  pub answer : Answers u top x (fold_at s t m iota r)
  pub kept : Kept top t u

-- ---- expressions without an operand that is folded

-- line r is a number, a string, a name or a name of a module: a form below 13
pub record Leaf (s t : Bytes) (m r top : ℕ) : Type 0 where
  pub fold : Foldable s t m r top
  pub form : form_at s (r - 1) < 13

-- line r is `ex,id`
pub record Ident (s t : Bytes) (m r top : ℕ) : Type 0 where
  pub fold : Foldable s t m r top
  pub form : form_at s (r - 1) ≡ 11

-- line r is `ex,qual`
pub record Qualified (s t : Bytes) (m r top : ℕ) : Type 0 where
  pub fold : Foldable s t m r top
  pub form : form_at s (r - 1) ≡ 12

-- line r is `ex,int`, `ex,real` or `ex,str`
pub record ScalarLine (s t : Bytes) (r top : ℕ) : Type 0 where
  pub line : ExLine s r
  pub form : form_at s (r - 1) < 11
  pub room : top + 256 ≤ length t

-- the value of such a line of form f with the field x
unfoldable pub scalar_of : ℕ → Bytes → Tree.ConstVal
scalar_of f x =
    cond (eqb f 8) (v_int (or_else (pos 0) (int_of x)))
    (cond (eqb f 9) (v_real (of_bits binary64 (from_big_endian 0 (or_else [] (unhex x)))))
    (v_str (or_else [] (unhex x))))

-- k is what a look-up answered, and there is room for a string at `top`
pub record AnsweredAt (t : Bytes) (k : Option ℕ) (top : ℕ) : Type 0 where
  pub answered : Answered t k
  pub low : 49152 ≤ top
  pub room : top + 256 ≤ length t

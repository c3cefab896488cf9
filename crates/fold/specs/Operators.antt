-- Lines with an operand that is folded, and what they make of its value.
use Rattle.std.specs.Prelude.{ℕ, ◌+◌, ◌-◌, ◌≤◌, ◌≡◌, cond, [], eqb, length, get_or}
use Rattle.semantics.specs.Text.{Bytes}
use Rattle.semantics.specs.Tree as Tree
use Rattle.semantics.specs.Tree.{Ex, basic_of}
use Rattle.semantics.specs.Tree.Ex.{constant, ident, mod_qual, unary, binary, cast, len, array_ex, other_ex}
use Rattle.semantics.specs.Form.{number_of}
use Rattle.semantics.specs.Fold.{Result, fold_unary, fold_cast, fold_len}
use Rattle.semantics.specs.Fold.Result.{ok, failed}
use Rattle.lines.specs.Lines.{read_at, form_at}
use Rattle.values.specs.declared.ConstVal.{ConstVal}
use Rattle.values.specs.Values.{At}
use Rattle.leaf.specs.Folds.{ExLine}

-- line r has an operand: its form is 13 to 16
pub record OperatorLine (s : Bytes) (r : ℕ) : Type 0 where
  pub line : ExLine s r
  pub low : 13 ≤ form_at s (r - 1)
  pub high : form_at s (r - 1) ≤ 16

-- the line of the only or left operand: `len` has it first, others behind an operator or a type
unfoldable pub operand_of : Bytes → ℕ → ℕ
operand_of s r = number_of (get_or (read_at s (r - 1)).fields (cond (eqb (form_at s (r - 1)) 16) 0 1) [])

-- what an expression makes of the value of its only operand
abbrev pub on_one : Ex → Tree.ConstVal → Result Tree.ConstVal
on_one (constant c) v = failed
on_one (ident n) v = failed
on_one (mod_qual e n) v = failed
on_one (unary o e) v = fold_unary o v
on_one (binary l o r) v = failed
on_one (cast t e) v = ok (fold_cast (basic_of t) v)
on_one (len e) v = fold_len v
on_one (array_ex a) v = failed
on_one other_ex v = failed

-- line r has one operand, whose value is v
pub record Applies (s t : Bytes) (r : ℕ) (v : ConstVal) (top : ℕ) : Type 0 where
  pub line : OperatorLine s r
  pub one : form_at s (r - 1) ≡ 14 → ⊥
  pub at : At top v
  pub room : top + 256 ≤ length t

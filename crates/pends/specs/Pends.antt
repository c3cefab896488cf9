-- `pend` rows and refusals of `var` lines.
use Rattle.std.specs.Prelude.{ℕ, ◌-◌, ◌≡◌, List, Option, None, Some, Result, Ok, Err}
use Rattle.semantics.specs.Text.{Bytes}
use Rattle.semantics.specs.Tree.{VarDecl}
use Rattle.semantics.specs.Sheet.{Located, concat_map, sheet_source}
use Rattle.semantics.specs.Fold.{Names}
use Rattle.semantics.specs.Const as Const
use Rattle.semantics.specs.Global.{Init, laid_vars, refused_by, vars_refused, globals}
use Rattle.semantics.specs.Listing.{pend_row}
use Rattle.write.specs.declared.Writer.{Writer}
use Rattle.write.specs.Writes.{Writes}
use Rattle.answers.specs.declared.Refusal.{Refusal}
use Rattle.answers.specs.Answers.{refusal_line, refusal_of}
use Rattle.arrays.specs.declared.NoItem.{NoItem}
use Rattle.arrays.specs.Arrays.{no_item}
use Rattle.globals.specs.Vars.{laid_vars_to, var_pends}

-- the refusal at line k where there is no item for this reason
abbrev pub refused_as : NoItem → ℕ → Option Const.Refusal
refused_as e k = refused_by k (no_item {A = Init} e) None

-- the names of lines that are pending
abbrev pub pends_of : Names → List (Located VarDecl) → List Bytes
pends_of ns vs = concat_map (λ (v : Located VarDecl). var_pends ns v.it) vs

-- what the writer v wrote for lines: their rows, where none is refused; of one that is, nothing
abbrev pub Pended : Names → List (Located VarDecl) → Writer → Result Unit Refusal → Writer → Type 0
Pended ns vs v (Ok x) w = (vars_refused ns vs ≡ None) × Writes v (concat_map pend_row (pends_of ns vs)) w
Pended ns vs v (Err r) w = (vars_refused ns vs ≡ Some (refusal_of r)) × (w ≡ v)

-- for a whole sheet: all rows, or those of the lines before the refused one
abbrev pub AllPended : Names → Bytes → Writer → Result Unit Refusal → Writer → Type 0
AllPended ns s v (Ok x) w = (vars_refused ns (laid_vars (sheet_source s)) ≡ None) × Writes v (concat_map pend_row (globals ns (sheet_source s)).pends) w
AllPended ns s v (Err r) w = (vars_refused ns (laid_vars (sheet_source s)) ≡ Some (refusal_of r)) × Writes v (concat_map pend_row (pends_of ns (laid_vars_to s (refusal_line r - 1)))) w

-- Items and refusals line by line.
use mathlib.Core.Path.{◌≡◌, refl, sym, ap, ◌∙◌}
use mathlib.Core.List.{List, [], ◌∷◌, ◌++◌}
use Rattle.std.specs.Prelude.{Option}
use Prim.Native.Nat.{ℕ}
use Rattle.semantics.specs.Text.{Bytes}
use Rattle.semantics.specs.Tree.{VarDecl}
use Rattle.semantics.specs.Sheet.{Located, sheet_source}
use Rattle.semantics.specs.Fold.{Result, Names}
use Rattle.semantics.specs.Fold.Result.{ok, failed, refuse}
use Rattle.semantics.specs.Const.{Refusal}
use Rattle.semantics.specs.Global.{var_value, refused_by, vars_refused, globals}
use Rattle.semantics.specs.Refusal.{or_refused}
use Rattle.checks.specs.Checks.{Checked}
use Rattle.globals.specs.Vars.{laid_vars_to, line_items}
use Rattle.globals.proofs.Vars.{items-by, laid-lines}
use Rattle.lines.specs.Lines.{lines_in}

-- the items of all lines are the sheet's
pub items-all : (ns : Names) (s : Bytes) → Checked s → line_items ns (globals ns (sheet_source s)).places (laid_vars_to s (lines_in s)) ≡ (globals ns (sheet_source s)).items
items-all ns s c = sym (items-by ns (sheet_source s) ∙ ap (line_items ns (globals ns (sheet_source s)).places) (laid-lines s c))

-- ---- the first line that is refused

refused-then : {A : Type 0} (k : ℕ) (x : Result A) (o w : Option Refusal) → refused_by k x (or_refused o w) ≡ or_refused (refused_by k x o) w
refused-then k (ok a) o w = refl
refused-then k failed o w = refl
refused-then k (refuse r) o w = refl

pub refused-append : (ns : Names) (vs ws : List (Located VarDecl)) → vars_refused ns (vs ++ ws) ≡ or_refused (vars_refused ns vs) (vars_refused ns ws)
refused-append ns [] ws = refl
refused-append ns (v ∷ vs) ws = rw (refused-append ns vs ws) (refused-then v.line (var_value ns v.it) (vars_refused ns vs) (vars_refused ns ws))

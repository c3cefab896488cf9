-- `consts::collect_consts` meets its contract.
use Rattle.lines.specs.Lines.{lines_in}
use Rattle.consts.specs.Passes.{PassesBefore, passes_left}
use Rattle.checks.specs.Checks.{Kept}
use Rattle.semantics.specs.Const.{constants}
use Rattle.semantics.specs.Sheet.{sheet_source}
use mathlib.Core.Path.{◌≡◌}
use Prim.Native.Nat.{◌≤◌}
use Rattle.consts.proofs.collect_consts.Given as goal

abbrev pub invariant-loop-i : goal.invariant-loop-i
invariant-loop-i l = (PassesBefore l.sheet l.work l.m l.i) × (Kept 5120 l.initial.work l.work) × (passes_left l.sheet l.work l.m l.i ≡ constants (sheet_source l.sheet)) × (l.i ≤ (lines_in l.sheet))

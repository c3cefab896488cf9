-- `consts::pass_consts` meets its contract.
use Rattle.lines.specs.Lines.{lines_in}
use Prim.Native.Nat.{◌-◌, ◌+◌, ◌≤◌}
use mathlib.Core.Path.{◌≡◌}
use lib.ListN.{length}
use Rattle.checks.specs.Checks.{Kept}
use Rattle.consts.specs.Passes.{PassAt, pass_from, group_from}
use Rattle.implement.specs.Modules.{line_number}
use Rattle.consts.proofs.Walk as Walk
use Rattle.consts.proofs.pass_consts.Given as goal

abbrev pub invariant-loop-p : goal.invariant-loop-p
invariant-loop-p l = (PassAt l.sheet l.work (line_number l.k) l.p) × (Kept 5120 l.initial.work l.work) × (pass_from l.sheet l.work (line_number l.k) l.p ≡ pass_from l.sheet l.initial.work (line_number l.k) (Walk.pass_start l.k l.m)) × (l.p.count + length (group_from l.sheet (line_number l.k) l.p.line) ≡ l.m + length (group_from l.sheet (line_number l.k) 0)) × (line_number l.k ≤ l.p.line)

abbrev pub decreases-loop-p : goal.decreases-loop-p
decreases-loop-p l = (lines_in l.sheet) - l.p.line

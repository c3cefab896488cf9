use Rattle.std.proofs.Common.{◌≤◌, ◌+◌, max}
use Rattle.checks.specs.Checks.{Kept}
use Rattle.type_rows.proofs.Elements.{KindRows}
use Rattle.type_rows.proofs.kinds.kind_rows.Given as goal

abbrev pub invariant-loop-i : goal.invariant-loop-i
invariant-loop-i l = (l.initial.i ≤ l.i) × (Kept 49152 l.initial.work l.work) × KindRows l.base l.id l.i l.initial.w l.w l.initial.work l.work l.keys × (l.i ≤ max l.id (l.base + l.keys))

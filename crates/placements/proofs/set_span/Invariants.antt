use Rattle.placements.proofs.Ranges.{Setting}
use Rattle.placements.proofs.set_span.Given as goal

abbrev pub invariant-loop-i : goal.invariant-loop-i
invariant-loop-i l = Setting l.initial.work l.low l.high l.e l.work l.i

-- `globals::collect_globals` meets its contract.
use Rattle.globals.proofs.Collect.{LinesLaid}
use Rattle.globals.proofs.collect_globals.Given as goal

abbrev pub invariant-loop-i : goal.invariant-loop-i
invariant-loop-i l = LinesLaid l.sheet l.initial.work l.work l.g l.k l.i

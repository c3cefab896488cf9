-- `modules::bad_module` meets its contract.
use Rattle.modules.proofs.Laws.{Walked}
use Rattle.modules.proofs.bad_module.Given as goal

abbrev pub invariant-loop-i : goal.invariant-loop-i
invariant-loop-i l = Walked l.sheet l.i l.inside

-- `nesting::too_deep` meets its contract.
use Rattle.nesting.proofs.Laws.{Descending}
use Rattle.nesting.proofs.too_deep.Given as goal

abbrev pub invariant-loop-i : goal.invariant-loop-i
invariant-loop-i l = Descending l.sheet l.work l.i

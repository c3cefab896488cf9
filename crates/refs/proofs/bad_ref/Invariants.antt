-- `refs::bad_ref` meets its contract.
use Rattle.refs.proofs.Laws.{Passing}
use Rattle.refs.proofs.bad_ref.Given as goal

abbrev pub invariant-loop-i : goal.invariant-loop-i
invariant-loop-i l = Passing l.sheet l.work l.i

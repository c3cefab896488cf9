-- `pends::pend_rows` meets its contract.
use Rattle.pends.proofs.Walk.{LinesPended}
use Rattle.pends.proofs.pend_rows.Given as goal

abbrev pub invariant-loop-i : goal.invariant-loop-i
invariant-loop-i l = LinesPended l.sheet l.initial.work l.consts l.initial.w l.work l.k l.i l.w

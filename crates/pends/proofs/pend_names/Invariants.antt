-- `pends::pend_names` meets its contract.
use Rattle.pends.proofs.Rows.{PendRowsWritten}
use Rattle.pends.proofs.pend_names.Given as goal

abbrev pub invariant-loop-j : goal.invariant-loop-j
invariant-loop-j l = PendRowsWritten l.sheet l.r l.count l.initial.w l.j l.w

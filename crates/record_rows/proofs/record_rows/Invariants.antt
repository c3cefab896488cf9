use Rattle.record_rows.proofs.Keys.{Keying}
use Rattle.record_rows.proofs.record_rows.Given as goal

abbrev pub invariant-loop-i : goal.invariant-loop-i
invariant-loop-i l = Keying l.sheet l.entries l.initial.w l.w l.initial.work l.work l.i

use Rattle.data_rows.proofs.Walk.{Walking}
use Rattle.data_rows.proofs.data_rows.Given as goal

abbrev pub invariant-loop-i : goal.invariant-loop-i
invariant-loop-i l = Walking l.sheet l.initial.work l.c l.initial.keys l.initial.w l.work l.keys l.w l.k l.i

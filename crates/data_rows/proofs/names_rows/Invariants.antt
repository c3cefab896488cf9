use Rattle.data_rows.proofs.Names.{NamesPrinted}
use Rattle.data_rows.proofs.names_rows.Given as goal

abbrev pub invariant-loop-j : goal.invariant-loop-j
invariant-loop-j l = NamesPrinted l.sheet l.initial.work l.c l.r l.x l.count l.initial.keys l.initial.w l.work l.keys l.w l.j

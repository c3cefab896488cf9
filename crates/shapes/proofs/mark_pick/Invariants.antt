use Rattle.shapes.proofs.Pointers.{CasesMarked}
use Rattle.shapes.proofs.mark_pick.Given as goal

abbrev pub invariant-loop-c : goal.invariant-loop-c
invariant-loop-c l = CasesMarked l.sheet l.r l.size l.end l.c l.initial.work l.work

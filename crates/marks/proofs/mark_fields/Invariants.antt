use Rattle.marks.proofs.Marking.{LinesMarked}
use Rattle.marks.proofs.mark_fields.Given as goal

abbrev pub invariant-loop-j : goal.invariant-loop-j
invariant-loop-j l = LinesMarked l.sheet l.f l.size l.off l.q l.j l.initial.work l.work

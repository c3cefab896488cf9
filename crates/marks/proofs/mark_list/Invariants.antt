-- `marks::mark_list` meets its contract. The invariant: i fields are marked, and whoever marks what is left has marked the list.
use Rattle.marks.proofs.Lists.{ListMarked}
use Rattle.marks.proofs.mark_list.Given as goal

abbrev pub invariant-loop-f : goal.invariant-loop-f
invariant-loop-f l = ListMarked l.size l.fields l.initial.work l.work l.f-index

use Rattle.shapes.proofs.Sizes.{Largest}
use Rattle.shapes.proofs.pick_size.Given as goal

abbrev pub invariant-loop-c : goal.invariant-loop-c
invariant-loop-c l = Largest l.sheet l.r l.size l.c

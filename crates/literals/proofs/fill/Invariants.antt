use Rattle.literals.proofs.Turns.{Turning}
use Rattle.literals.proofs.fill.Given as goal

abbrev pub invariant-loop-j : goal.invariant-loop-j
invariant-loop-j l = Turning l.sheet l.initial.work l.consts l.r l.count l.work l.x l.j

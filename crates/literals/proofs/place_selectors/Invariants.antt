use Rattle.literals.proofs.Spans.{extent_of, Selecting}
use Rattle.literals.proofs.place_selectors.Given as goal

abbrev pub invariant-loop-j : goal.invariant-loop-j
invariant-loop-j l = Selecting l.sheet l.initial.work l.consts l.r l.e (extent_of l.initial.y) l.count l.work l.y l.j

use Rattle.arrays.proofs.Elements.{Casting}
use Rattle.arrays.proofs.is_byte_literal.Given as goal

abbrev pub invariant-loop-j : goal.invariant-loop-j
invariant-loop-j l = Casting l.sheet l.r l.count l.j

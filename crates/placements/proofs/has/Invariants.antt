use Rattle.placements.proofs.Values.{NoneOfKind}
use Rattle.codes.specs.Kinds.{value_number}
use Rattle.placements.proofs.has.Given as goal

abbrev pub invariant-loop-i : goal.invariant-loop-i
invariant-loop-i l = NoneOfKind l.work l.count (value_number l.wanted) l.i

use Rattle.maps.proofs.Maps.{Clearing}
use Rattle.maps.proofs.clear_map.Given as goal

abbrev pub invariant-loop-i : goal.invariant-loop-i
invariant-loop-i l = Clearing l.initial.work l.work l.i

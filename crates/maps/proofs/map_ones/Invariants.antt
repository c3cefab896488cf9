use Rattle.maps.proofs.Maps.{OnesCounted}
use Rattle.maps.proofs.map_ones.Given as goal

abbrev pub invariant-loop-i : goal.invariant-loop-i
invariant-loop-i l = OnesCounted l.work l.size l.count l.i

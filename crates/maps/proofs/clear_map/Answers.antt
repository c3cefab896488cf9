use Rattle.maps.proofs.Maps.{map-fits, clearing-start, clearing-next, clearing-end}
use native.Mathlib.Omega.{arith}
use Rattle.maps.proofs.clear_map.Goals as goal

pub loop-i-init : goal.loop-i-init
loop-i-init c = clearing-start

pub overflow_add-work : goal.overflow_add-work
overflow_add-work c = omega (arith, map-fits c.requires)

pub bounds-work-i : goal.bounds-work-i
bounds-work-i c = omega (arith, c.loop-i.invariant.kept.long, c.requires.room, map-fits c.requires)

pub loop-i-preserved : goal.loop-i-preserved
loop-i-preserved c = clearing-next c.loop-i.invariant (omega (arith, c.loop-i.invariant.kept.long, c.requires.room, map-fits c.requires))

pub returns : goal.returns
returns c = clearing-end c.requires (omega arith) c.loop-i.invariant

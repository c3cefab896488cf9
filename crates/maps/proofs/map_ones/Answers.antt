use Rattle.maps.proofs.Maps.{map-fits, ones-start, ones-next, ones-end}
use native.Mathlib.Omega.{arith}
use Rattle.maps.proofs.map_ones.Goals as goal

pub loop-i-init : goal.loop-i-init
loop-i-init c = ones-start c.args.work.now c.args.size c.requires

pub bounds-work-i : goal.bounds-work-i
bounds-work-i c = omega (arith, c.requires.room, map-fits c.requires)

pub overflow_add-count : goal.overflow_add-count
overflow_add-count c = omega (arith, c.loop-i.invariant.few, c.loop-i.invariant.within, map-fits c.requires, c.ones_of-count.ensures.1)

pub loop-i-preserved : goal.loop-i-preserved
loop-i-preserved c = ones-next c.args.work.now c.args.size c.requires c.loop-i.count c.loop-i.i c.ones_of-count.result c.loop-i.invariant (omega arith) c.ones_of-count.ensures.0 c.ones_of-count.ensures.1

pub returns : goal.returns
returns c = ones-end c.args.work.now c.args.size c.requires c.loop-i.count c.loop-i.i c.loop-i.invariant (omega arith)

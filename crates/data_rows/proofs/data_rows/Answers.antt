use Rattle.data_rows.proofs.Walk.{walk_start, walk-next, walk_end}
use native.Mathlib.Omega.{arith}
use Rattle.data_rows.proofs.data_rows.Goals as goal

pub loop-i-init : goal.loop-i-init
loop-i-init c = walk_start c.requires

pub open_after-k-requires : goal.open_after-k-requires
open_after-k-requires c = (c.loop-i.invariant.here, omega (arith, c.count-i-end.ensures.0, c.loop-i-test.true))

pub loop-i-preserved : goal.loop-i-preserved
loop-i-preserved c = walk-next c.requires c.loop-i.invariant c.laid_line-r.result c.laid_line-r.ensures.0 c.line_rows-keys.ensures c.open_after-k.ensures

pub returns : goal.returns
returns c = walk_end c.requires c.loop-i.invariant (omega (arith, c.count-i-end.ensures.0, c.loop-i-test.false))

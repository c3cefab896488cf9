use Rattle.pends.proofs.Rows.{pend-rows-start, pend-rows-next, pend-rows-end}
use native.Mathlib.Omega.{arith}
use Rattle.pends.proofs.pend_names.Goals as goal

pub loop-j-init : goal.loop-j-init
loop-j-init c = pend-rows-start c.args.sheet.now c.args.r c.name_count-count.ensures.0 _ c.args.w.now.room

pub name_at-requires : goal.name_at-requires
name_at-requires c = (c.requires, omega (arith, c.name_count-count.ensures.1, c.loop-j-test.true))

pub loop-j-preserved : goal.loop-j-preserved
loop-j-preserved c = pend-rows-next c.loop-j.invariant c.loop-j-test.true c.name_at.ensures c.pend_name.ensures

pub returns : goal.returns
returns c = pend-rows-end c.loop-j.invariant c.loop-j-test.false

use Rattle.shapes.proofs.Pointers.{cases-marked-start, cases-marked-next, cases-marked-end}
use native.Mathlib.Omega.{arith}
use Rattle.shapes.proofs.mark_pick.Goals as goal

pub loop-c-init : goal.loop-c-init
loop-c-init c = cases-marked-start c.args.sheet.now c.args.r c.args.size

pub loop-c-preserved : goal.loop-c-preserved
loop-c-preserved c = cases-marked-next c.args.sheet.now c.args.r c.args.size c.loop-c.invariant (omega (arith, c.loop-c-test.true, c.case_count-count.ensures.0)) c.case_line-k.ensures c.mark_case.ensures

pub returns : goal.returns
returns c = cases-marked-end c.args.sheet.now c.args.r c.args.size c.requires.0 c.mark_common-end.ensures.0 c.loop-c.invariant (omega (arith, c.loop-c-test.false, c.case_count-count.ensures.0))

use Rattle.shapes.proofs.Sizes.{largest-start, largest-next, largest-end, variant-size}
use native.Mathlib.Omega.{arith}
use Rattle.shapes.proofs.pick_size.Goals as goal

pub loop-c-init : goal.loop-c-init
loop-c-init c = largest-start c.args.sheet.now c.args.r c.requires c.rounded_size-size.result c.behind_common-p.result c.behind_common-p.ensures c.rounded_size-size.ensures

pub loop-c-preserved : goal.loop-c-preserved
loop-c-preserved c = largest-next c.args.sheet.now c.args.r c.requires c.loop-c.size c.case_size.result c.max-size.result c.loop-c.c c.loop-c.invariant (omega (arith, c.loop-c-test.true, c.case_count-count.ensures.0)) (variant-size c.args.sheet.now c.args.r c.loop-c.c c.case_line-line.result c.case_size.result c.behind_common-p.result c.behind_common-p.ensures c.case_line-line.ensures c.case_size.ensures) c.max-size.ensures

pub returns : goal.returns
returns c = largest-end c.args.sheet.now c.args.r c.requires c.loop-c.size c.loop-c.c c.loop-c.invariant (omega (arith, c.loop-c-test.false, c.case_count-count.ensures.0))

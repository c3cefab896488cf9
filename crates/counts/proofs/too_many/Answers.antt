use native.Mathlib.Omega.{arith}
use Rattle.answers.specs.declared.Refusal.TheVariants.{TooMany}
use Rattle.answers.proofs.First.{at-first, no-first}
use Rattle.counts.specs.Counts.{counts_of}
use Rattle.counts.proofs.Laws.{counting-over, counting-next, counting-end}
use Rattle.counts.proofs.too_many.Goals as goal

pub returns-then-is_over : goal.returns-then-is_over
returns-then-is_over c = at-first TooMany c.loop-i.i (counting-over c.args.sheet.now c.count-n.ensures.1 c.requires c.loop-i.i (counts_of c.loop-i.t) c.loop-i.invariant (omega (arith, c.count-n.ensures.0, c.loop-i-test.true)) (counts_of c.count-t.result) c.count-t.ensures c.is_over.ensures c.if-is_over.true)

pub loop-i-preserved : goal.loop-i-preserved
loop-i-preserved c = counting-next c.args.sheet.now c.count-n.ensures.1 c.requires c.loop-i.i (counts_of c.loop-i.t) c.loop-i.invariant (omega (arith, c.count-n.ensures.0, c.loop-i-test.true)) (counts_of c.count-t.result) c.count-t.ensures c.is_over.ensures c.if-is_over.false

pub returns : goal.returns
returns c = no-first TooMany (counting-end c.args.sheet.now c.count-n.ensures.1 c.requires c.loop-i.i (counts_of c.loop-i.t) c.loop-i.invariant (omega (arith, c.count-n.ensures.0, c.loop-i-test.false)))

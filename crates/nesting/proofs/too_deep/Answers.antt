use native.Mathlib.Omega.{arith}
use mathlib.Core.Path.{refl}
use borrow.Author.Rules.{rules}
use Rattle.answers.specs.declared.Refusal.TheVariants.{DeepNesting}
use Rattle.answers.proofs.First.{at-first, no-first}
use Rattle.nesting.proofs.Laws.{descending-bad, descending-next, descending-end}
use Rattle.nesting.proofs.too_deep.Goals as goal

pub returns-then-d-gt-DEEPEST : goal.returns-then-d-gt-DEEPEST
returns-then-d-gt-DEEPEST c = at-first DeepNesting c.loop-i.i (descending-bad c.args.sheet.now c.loop-i.work c.loop-i.i c.loop-i.invariant (omega (arith, c.count-i-end.ensures.0, c.loop-i-test.true)) c.depth_below-d.result c.depth_below-d.ensures.1 c.if-d-gt-DEEPEST.true)

pub loop-i-preserved : goal.loop-i-preserved
loop-i-preserved c = descending-next c.args.sheet.now c.loop-i.work c.loop-i.i c.loop-i.invariant (omega (arith, c.count-i-end.ensures.0, c.loop-i-test.true)) c.depth_below-d.result c.depth_below-d.ensures.1 _ (omega (arith, c.count-i-end.ensures.0, c.count-i-end.ensures.1.few, c.loop-i-test.true)) (search rules) c.if-d-gt-DEEPEST.false refl

pub returns : goal.returns
returns c = no-first DeepNesting (descending-end c.args.sheet.now c.loop-i.work c.loop-i.i c.loop-i.invariant (omega (arith, c.count-i-end.ensures.0, c.loop-i-test.false)))

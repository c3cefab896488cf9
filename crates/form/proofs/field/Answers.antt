use native.Mathlib.Omega.{arith}
use Rattle.form.proofs.Laws.{field-here, field_next, field-none, field-start}
use mathlib.Core.Path.{◌∙◌, sym}
use Rattle.form.proofs.field.Goals as goal

pub loop-at-init : goal.loop-at-init
loop-at-init c = (omega arith, field-start c.args.l.now c.args.f c.args.i c.width-at.result c.width-at.ensures.0)

pub returns-then-k-i : goal.returns-then-k-i
returns-then-k-i c = field-here c.args.l.now c.loop-at.at c.find-e.result c.args.i c.loop-at.k c.loop-at-test.true c.find-e.ensures.0 c.if-k-i.true ∙ sym c.loop-at.invariant.1

pub loop-at-preserved : goal.loop-at-preserved
loop-at-preserved c = (omega (arith, c.if-k-i.false), c.loop-at.invariant.1 ∙ field_next c.args.l.now c.loop-at.at c.find-e.result c.args.i c.loop-at.k c.loop-at-test.true c.find-e.ensures.0 c.loop-at.invariant.0 c.if-k-i.false)

pub returns : goal.returns
returns c = field-none c.args.l.now c.loop-at.at _ c.loop-at-test.false ∙ sym c.loop-at.invariant.1

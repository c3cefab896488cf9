use native.Mathlib.Omega.{arith}
use mathlib.Core.Path.{◌≡◌, ◌∙◌, ap}
use Rattle.form.specs.Table.{kind_at}
use Rattle.answers.specs.declared.Refusal.TheVariants.{BadModule}
use Rattle.answers.proofs.First.{at-first, at-line, no-first}
use Rattle.lines.specs.Lines.{lines_in}
use Rattle.modules.proofs.Laws.{module-bad, module-next, module-open, module-closed, open-late}
use Rattle.modules.proofs.bad_module.Goals as goal

pub returns-then-is_wrong : goal.returns-then-is_wrong
returns-then-is_wrong c = at-first BadModule c.loop-i.i (module-bad c.args.sheet.now c.loop-i.i c.count-n.ensures.1 c.loop-i.inside c.loop-i.invariant (omega (arith, c.count-n.ensures.0, c.loop-i-test.true)) c.kind-k.result (c.kind-k.ensures ∙ ap kind_at c.form_at.ensures.0) c.is_wrong.ensures c.if-is_wrong.true)

pub loop-i-preserved : goal.loop-i-preserved
loop-i-preserved c = module-next c.args.sheet.now c.loop-i.i c.count-n.ensures.1 c.loop-i.inside c.loop-i.invariant (omega (arith, c.count-n.ensures.0, c.loop-i-test.true)) c.kind-k.result (c.kind-k.ensures ∙ ap kind_at c.form_at.ensures.0) c.is_wrong.ensures c.if-is_wrong.false c.is_open-inside.ensures

pub returns-then-inside : goal.returns-then-inside
returns-then-inside c =
    let e : c.loop-i.i ≡ lines_in c.args.sheet.now = omega (arith, c.count-n.ensures.0, c.loop-i.auto.i-end, c.loop-i-test.false) in
    at-line BadModule (omega (arith, open-late c.loop-i.invariant c.if-inside.true, e)) (c.count-n.ensures.0 ∙ module-open c.args.sheet.now c.loop-i.i c.count-n.ensures.1 c.loop-i.inside c.loop-i.invariant e c.if-inside.true)

pub returns : goal.returns
returns c = no-first BadModule (module-closed c.args.sheet.now c.loop-i.i c.count-n.ensures.1 c.loop-i.inside c.loop-i.invariant (omega (arith, c.count-n.ensures.0, c.loop-i.auto.i-end, c.loop-i-test.false)) c.if-inside.false)

use native.Mathlib.Omega.{arith}
use mathlib.Core.Path.{◌∙◌}
use Rattle.nesting.proofs.Max.{max-is}
use Rattle.nesting.proofs.Laws.{deepest-start, deepest-on, deepest-end}
use Rattle.nesting.proofs.depth_below.Goals as goal

pub loop-w-init : goal.loop-w-init
loop-w-init c = (omega arith, deepest-start c.args.sheet.now c.args.work.now c.args.i c.line_at-l.ensures.1 c.requires c.line_at-l.result.now c.form_at-f.result c.line_at-l.ensures.0 c.form_at-f.ensures.0 c.begin-w.result c.begin-w.ensures)

pub loop-w-preserved : goal.loop-w-preserved
loop-w-preserved c =
    let e = c.max-depth.ensures ∙ max-is c.loop-w.depth c.ref_depth.result in
    (omega (arith, e, c.ref_depth.ensures.1, c.loop-w.invariant.0), deepest-on c.args.sheet.now c.args.work.now c.args.i (omega (arith, c.line_at-l.ensures.1.few, c.requires)) c.form_at-f.result c.line_at-l.result.now c.loop-w.w c.next-s.result.next c.next-s.result.letter c.next-s.result.number c.loop-w.depth c.next-s.ensures c.loop-w.invariant.1 c.ref_depth.result c.max-depth.result c.ref_depth.ensures.0 e)

pub returns : goal.returns
returns c = (c.loop-w.invariant.0, deepest-end c.args.sheet.now c.args.work.now c.args.i c.form_at-f.result c.line_at-l.result.now c.loop-w.w c.loop-w.depth c.loop-w-test.false c.loop-w.invariant.1)

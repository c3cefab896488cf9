use native.Mathlib.Omega.{arith}
use mathlib.Core.Path.{refl}
use Rattle.counts.proofs.Laws.{tags-start, tags-line, tags-on, tags-end, length-line}
use Rattle.counts.proofs.tags.Goals as goal

pub loop-w-init : goal.loop-w-init
loop-w-init c = tags-start c.args.sheet.now c.args.i c.line_at-l.ensures.1 c.requires.0 c.requires.1 c.line_at-l.result.now c.form_at-f.result c.line_at-l.ensures.0 c.form_at-f.ensures.0 c.begin-w.result c.begin-w.ensures

pub case_tags-count-requires : goal.case_tags-count-requires
case_tags-count-requires c = (tags-line c.args.sheet.now _ c.args.i c.line_at-l.ensures.1.few c.requires.1 c.form_at-f.result c.line_at-l.result.now c.loop-w.w c.next-s.result.next c.next-s.result.letter c.next-s.result.number c.loop-w.count c.next-s.ensures c.loop-w.invariant)

pub loop-w-preserved : goal.loop-w-preserved
loop-w-preserved c = tags-on c.args.sheet.now _ c.args.i c.line_at-l.ensures.1.few c.requires.1 c.form_at-f.result c.line_at-l.result.now c.loop-w.w c.next-s.result.next c.next-s.result.letter c.next-s.result.number c.loop-w.count c.next-s.ensures c.loop-w.invariant c.case_tags-count.result _ (omega (arith, c.loop-w-test.true, length-line c.args.sheet.now c.args.i c.line_at-l.ensures.1 c.requires.1 c.line_at-l.result.now c.line_at-l.ensures.0)) c.case_tags-count.ensures.1 c.case_tags-count.ensures.0 refl

pub returns : goal.returns
returns c = tags-end c.args.sheet.now c.args.i c.form_at-f.result c.line_at-l.result.now c.loop-w.w c.loop-w.count c.loop-w-test.false c.loop-w.invariant

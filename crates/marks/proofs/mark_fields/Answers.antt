use Rattle.marks.proofs.Marking.{lines-marked-start, lines-marked-next, lines-marked-end}
use Rattle.maps.proofs.Maps.{room-kept}
use Rattle.sizes.proofs.Places.{refs-line}
use native.Mathlib.Omega.{arith}
use Rattle.marks.proofs.mark_fields.Goals as goal

pub loop-j-init : goal.loop-j-init
loop-j-init c = lines-marked-start c.args.sheet.now c.args.work.now c.args.f c.requires.0 c.args.size c.args.off

pub mark_field-q-requires : goal.mark_field-q-requires
mark_field-q-requires c = (refs-line c.args.sheet.now c.args.f c.requires.0 c.loop-j.j c.loop-j-test.true c.number_at-r.result c.number_at-r.ensures.0, room-kept c.loop-j.invariant.marks.kept c.requires.1, omega (arith, c.loop-j.invariant.small, c.requires.2, c.requires.0.few, c.loop-j-test.true))

pub loop-j-preserved : goal.loop-j-preserved
loop-j-preserved c = lines-marked-next c.args.sheet.now c.args.work.now c.args.f c.requires.0 c.args.size c.args.off c.loop-j.invariant c.loop-j-test.true c.number_at-r.ensures.0 c.mark_field-q.ensures.0 c.mark_field-q.ensures.1

pub returns : goal.returns
returns c = (lines-marked-end c.args.sheet.now c.args.work.now c.args.f c.requires.0 c.args.size c.args.off c.loop-j.invariant c.loop-j-test.false, omega (arith, c.loop-j.invariant.small, c.loop-j.invariant.within, c.requires.0.few))

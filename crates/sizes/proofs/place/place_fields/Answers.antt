use native.Mathlib.Omega.{arith}
use Rattle.sizes.proofs.Places.{refs-in, behind-lines-start, behind-lines-end, refs-line, behind-lines-next}
use Rattle.sizes.proofs.place.place_fields.Goals as goal

pub loop-j-init : goal.loop-j-init
loop-j-init c = behind-lines-start c.args.sheet.now c.args.f c.requires.0 c.args.p

pub overflow_sub-f : goal.overflow_sub-f
overflow_sub-f c = c.requires.0.first

pub overflow_add-f : goal.overflow_add-f
overflow_add-f c = record { fits = omega (arith, c.requires.0.near, c.requires.0.few, c.loop-j-test.true) }

pub place_field-q-requires : goal.place_field-q-requires
place_field-q-requires c = (refs-line c.args.sheet.now c.args.f c.requires.0 c.loop-j.j c.loop-j-test.true c.number_at-r.result c.number_at-r.ensures.0, omega (arith, c.loop-j.invariant.small, c.requires.1, c.requires.0.few, c.loop-j-test.true))

pub loop-j-preserved : goal.loop-j-preserved
loop-j-preserved c = behind-lines-next c.args.sheet.now c.args.f c.requires.0 c.args.p c.loop-j.q c.loop-j.j c.loop-j.invariant c.loop-j-test.true c.number_at-r.result c.number_at-r.ensures.0 c.place_field-q.result c.place_field-q.ensures.0 c.place_field-q.ensures.1

pub returns : goal.returns
returns c = (behind-lines-end c.args.sheet.now c.args.f c.requires.0 c.args.p c.loop-j.q c.loop-j.j c.loop-j.invariant c.loop-j-test.false, omega (arith, c.loop-j.invariant.small, c.loop-j.invariant.within, c.requires.0.few))

use Rattle.std.proofs.Common.{arith}
use Rattle.sizes.proofs.Places.{refs-line}
use Rattle.field_rows.proofs.Fields.{fielding-start, fielding-next, fielding-end}
use Rattle.field_rows.proofs.put_fields.Goals as goal

pub loop-j-init : goal.loop-j-init
loop-j-init c = fielding-start c.args.sheet.now c.args.f c.requires.0 _ _

pub put_line-offset-requires : goal.put_line-offset-requires
put_line-offset-requires c = (refs-line c.args.sheet.now c.args.f c.requires.0 c.loop-j.j c.loop-j-test.true _ c.number_at-r.ensures.0, omega (arith, c.loop-j.invariant.small, c.requires.1, c.requires.0.few, c.loop-j-test.true))

pub loop-j-preserved : goal.loop-j-preserved
loop-j-preserved c = fielding-next c.args.sheet.now c.args.f c.requires.0 _ _ _ _ _ c.loop-j.invariant c.loop-j-test.true _ c.number_at-r.ensures.0 _ _ c.put_line-offset.ensures.0 c.put_line-offset.ensures.1

pub returns : goal.returns
returns c = (fielding-end c.args.sheet.now c.args.f c.requires.0 _ _ _ _ _ c.loop-j.invariant (omega (arith, c.loop-j-test.false)), omega (arith, c.loop-j.invariant.small, c.loop-j.invariant.within, c.requires.0.few))

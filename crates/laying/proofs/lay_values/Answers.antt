-- `laying::lay_values` meets its contract.
use Rattle.laying.proofs.Steps.{lays-image, lays-part}
use Rattle.laying.proofs.lay_values.Goals as goal

pub returns-then-s : goal.returns-then-s
returns-then-s c =
    let a = c.args in
    lays-part a.off _ a.image.now a.area.now a.s c.went_on.result c.requires.0 c.if-s.true c.put_row-p.ensures c.went_on.ensures

pub returns : goal.returns
returns c =
    let a = c.args in
    lays-image a.off _ a.image.now a.area.now a.s c.went_on-2.result c.requires.0 c.if-s.false c.put_row-q.ensures (rw c.max.ensures at c.went_on-2.ensures)

use Rattle.marks.proofs.Lists.{list-next, list-end}
use Rattle.marks.proofs.mark_list.Goals as goal

pub loop-f-preserved : goal.loop-f-preserved
loop-f-preserved c = list-next _ _ _ c.loop-f.invariant c.loop-f-test.true c.mark_if.ensures

pub returns : goal.returns
returns c = list-end _ _ _ c.loop-f.invariant c.loop-f-test.false

use Rattle.record_log.proofs.Table.{tagging-start, tagging-next, tagging-end}
use Rattle.record_log.proofs.put_tags.Goals as goal

pub loop-j-init : goal.loop-j-init
loop-j-init c = tagging-start c.args.r c.args.case c.args.count c.args.number c.args.work.now c.args.at c.requires.4

pub loop-j-preserved : goal.loop-j-preserved
loop-j-preserved c = tagging-next c.args.r c.args.case c.args.count c.args.number c.args.work.now c.args.at _ _ _ c.loop-j.invariant c.loop-j-test.true _ _ c.put_entry-p.ensures

pub returns : goal.returns
returns c = tagging-end c.args.r c.args.case c.args.count c.args.number c.args.work.now c.args.at _ _ _ c.loop-j.invariant c.loop-j-test.false

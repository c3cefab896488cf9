use Rattle.record_rows.proofs.Keys.{keying-start, keying-next, log-now}
use Rattle.record_rows.proofs.record_rows.Goals as goal

pub loop-i-init : goal.loop-i-init
loop-i-init c = keying-start c.args.sheet.now _ _ c.requires c.args.w.now

pub put_newest-requires : goal.put_newest-requires
put_newest-requires c = (log-now c.args.sheet.now _ _ c.requires c.args.w.now _ _ _ c.loop-i.invariant, c.loop-i-test.true)

pub loop-i-preserved : goal.loop-i-preserved
loop-i-preserved c = keying-next c.args.sheet.now _ _ c.requires c.args.w.now _ _ _ c.loop-i.invariant c.loop-i-test.true _ _ c.put_newest.ensures

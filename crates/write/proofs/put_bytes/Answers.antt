use Rattle.write.proofs.Wrote.{wrote_none, wrote-next}
use Rattle.write.proofs.put_bytes.Goals as goal

pub loop-b-init : goal.loop-b-init
loop-b-init c = wrote_none _ _ c.requires

pub loop-b-preserved : goal.loop-b-preserved
loop-b-preserved c = wrote-next _ _ c.loop-b-test.true c.loop-b.invariant c.put_byte-p.ensures

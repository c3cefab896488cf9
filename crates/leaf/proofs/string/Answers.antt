use Rattle.std.proofs.Common.{rules}
use Rattle.leaf.proofs.Leaves.{string-more, string-put}
use Rattle.write.proofs.Writes.{writes_none, writes_from}
use Rattle.leaf.proofs.string.Goals as goal

pub loop-i-init : goal.loop-i-init
loop-i-init c = writes_none _ c.from-w.result.room

pub loop-i-preserved : goal.loop-i-preserved
loop-i-preserved c = string-more c.args.x.now c.requires.0 c.loop-i-test.true (rw c.byte.ensures at c.unwrap_or.ensures) c.loop-i.invariant c.put.ensures

pub returns : goal.returns
returns c = string-put c.args.x.now c.requires.0 c.requires.1 c.requires.2 c.loop-i-test.false (writes_from c.from-w.ensures.bytes c.from-w.ensures.place c.loop-i.invariant (search rules))

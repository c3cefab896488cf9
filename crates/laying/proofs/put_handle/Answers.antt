-- `laying::put_handle` meets its contract.
use Rattle.std.proofs.Common.{rules}
use Rattle.write.proofs.Writes.{writes_from}
use Rattle.laying.proofs.Steps.{handled}
use Rattle.laying.proofs.put_handle.Goals as goal

pub returns : goal.returns
returns c = handled c.args.item (writes_from c.from-w.ensures.bytes c.from-w.ensures.place c.put_big_endian.ensures (search (rules, c.put_big_endian.ensures.same_buffer)))

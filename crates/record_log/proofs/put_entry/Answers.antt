-- `record_log::put_entry` meets its contract.
use Rattle.std.proofs.Common.{rules}
use Rattle.write.proofs.Writes.{writes_from}
use Rattle.record_log.proofs.put_entry.Goals as goal

pub returns : goal.returns
returns c = writes_from c.from-w.ensures.bytes c.from-w.ensures.place c.put_part.ensures (search rules)

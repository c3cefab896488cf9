-- `laying::put_row` meets its contract.
use Rattle.std.proofs.Common.{rules}
use Rattle.write.proofs.Writes.{writes_from}
use Rattle.laying.proofs.put_row.Goals as goal

pub returns : goal.returns
returns c = writes_from c.from-w.ensures.bytes c.from-w.ensures.place c.put_values.ensures (search (rules, c.put_values.ensures.same_buffer))

use Rattle.std.proofs.Common.{rules}
use Rattle.write.proofs.Writes.{writes_from}
use Rattle.values.proofs.Values.{int-string}
use Rattle.values.proofs.cast_int.Goals as goal

pub returns-in-4 : goal.returns-in-4
returns-in-4 c = int-string c.ranges.x c.in-4.is c.requires (writes_from c.from-w.ensures.bytes c.from-w.ensures.place c.put_int.ensures (search (rules, c.put_int.ensures.same_buffer)))

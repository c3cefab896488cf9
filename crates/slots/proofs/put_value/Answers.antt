-- `slots::put_value` meets its contract.
use Rattle.std.proofs.Common.{◌∙◌, rules}
use Rattle.write.proofs.Writes.{writes_then, writes_from}
use Rattle.slots.proofs.put_value.Goals as goal

pub returns : goal.returns
returns c =
    let w = writes_then c.put.ensures c.put_bits.ensures in
    ((writes_from c.from-w.ensures.bytes c.from-w.ensures.place w (search (rules, w.same_buffer))).bytes ∙ rw (c.number.ensures, c.kind_of.ensures, c.bits_of.ensures.0), c.bits_of.ensures.1)

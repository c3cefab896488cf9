-- `entries::put_bytes` meets its contract.
use Rattle.std.proofs.Common.{rules}
use Rattle.entries.specs.Entering.{entry_of}
use Rattle.write.proofs.Writes.{writes_then, writes_from}
use Rattle.entries.proofs.put_bytes.Goals as goal

pub returns : goal.returns
unfolding entry_of
returns c =
    let w = writes_then c.put.ensures (writes_then c.put-2.ensures (writes_then c.put-3.ensures (writes_then c.put-4.ensures (writes_then c.put-5.ensures (writes_then c.put_bits.ensures c.put-6.ensures))))) in
    (writes_from c.from-w.ensures.bytes c.from-w.ensures.place w (search rules)).bytes

use Rattle.write.proofs.Writes.{writes_then}
use Rattle.rows.proofs.comma_bits.Goals as goal

pub returns : goal.returns
returns c = writes_then c.put.ensures c.put_hex_bits.ensures

use Rattle.std.proofs.Common.{◌∙◌, ap}
use Rattle.semantics.specs.Text.{hex_of}
use Rattle.write.proofs.Writes.{writes_as, big-endian-is}
use Rattle.write.proofs.Writer.put_hex_bits.Goals as goal

pub returns : goal.returns
returns c = writes_as (ap hex_of (c.to_be_bytes.ensures ∙ big-endian-is 8 c.args.n)) c.put_hex.ensures

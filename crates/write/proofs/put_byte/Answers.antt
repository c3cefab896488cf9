use Rattle.std.proofs.Common.{arith}
use Rattle.write.proofs.Wrote.{wrote-byte, wrote-past}
use Rattle.write.proofs.put_byte.Goals as goal

pub returns-then-at-out : goal.returns-then-at-out
returns-then-at-out c = wrote-byte _ _ _ c.if-at-out.true

pub returns-else-at-out : goal.returns-else-at-out
returns-else-at-out c = wrote-past _ _ _ c.if-at-out.false (omega arith)

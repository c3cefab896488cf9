use Rattle.semantics.specs.Text.{hex_of}
use Rattle.write.proofs.Wrote.{then, wrote_none, wrote_as}
use Rattle.write.proofs.Writes.{wrote_hex_next, hex-of-byte}
use Rattle.write.proofs.put_digits.Goals as goal

pub loop-b-init : goal.loop-b-init
unfolding hex_of
loop-b-init c = wrote_none _ _ c.requires

pub loop-b-preserved : goal.loop-b-preserved
loop-b-preserved c =
    wrote_hex_next _ _ c.loop-b-test.true c.loop-b.invariant
    (wrote_as (hex-of-byte _) (rw (← c.hex_digit.ensures, ← c.hex_digit-in-loop-b.ensures) (then c.put_byte-p.ensures c.put_byte-p-in-loop-b.ensures)))

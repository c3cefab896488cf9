-- `hex_field::read_bits` meets its contract. i bytes are read, so their number is below 256 ^ i, and those that are left complete it.
use Rattle.std.proofs.Common.{◌≡◌, ◌<◌, ◌*◌, ◌^◌, drop}
use Rattle.semantics.specs.Text.{unhex}
use Rattle.hex_field.specs.Hex.{bits64_of, bits64_from}
use Rattle.hex_field.proofs.read_bits.Given as goal

abbrev pub invariant-loop-i : goal.invariant-loop-i
invariant-loop-i l = (l.bits < 256 ^ l.i) × (bits64_of l.s ≡ bits64_from l.bits (unhex (drop (2 * l.i) l.s)))

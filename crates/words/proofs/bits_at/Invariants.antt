-- `words::bits_at` meets its contract. The bytes passed are below 256 to the power of their number.
use Rattle.std.proofs.Common.{◌≡◌, ◌<◌, ◌-◌, ◌+◌, ◌^◌, take, drop}
use Rattle.semantics.specs.Text.{from_big_endian}
use Rattle.words.specs.Words.{bits_at}
use Rattle.words.proofs.bits_at.Given as goal

abbrev pub invariant-loop-k : goal.invariant-loop-k
invariant-loop-k l = (l.bits < 256 ^ l.k) × (bits_at l.work l.a ≡ from_big_endian l.bits (take (8 - l.k) (drop (l.a + l.k) l.work)))

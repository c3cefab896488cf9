-- `bits_again` meets its contract: a NaN has one pattern, and all other bits come back.
use Rattle.std.proofs.Common.{ap, ◌∙◌}
use lib.Ieee.{binary64, to_bits}
use Rattle.number_vectors.proofs.Patterns.{bits_back}
use Rattle.number_vectors.proofs.bits_again.Goals as goal

pub returns : goal.returns
returns c = c.bits.ensures ∙ ap (to_bits binary64) c.of_bits.ensures ∙ bits_back c.args.b c.ranges.b.fits

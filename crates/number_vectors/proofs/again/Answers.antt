-- `again` meets its contract: a real of the format is what its bits say.
use Rattle.std.proofs.Common.{T, sym, ap, ◌∙◌, subst}
use lib.Ieee.{binary64, of_bits}
use lib.Ieee.Bits.{of_bits-to_bits}
use Rattle.number_vectors.proofs.again.Goals as goal

pub returns : goal.returns
returns c = c.of_bits.ensures ∙ ap (of_bits binary64) c.bits.ensures ∙ of_bits-to_bits binary64 c.args.x (subst T (sym c.well_formed.0.1) tt)

-- `reals::last_digit` meets its contract: the lowest bit is the rest modulo 2.
use lib.Bits.{and_mask}
use Rattle.reals.proofs.last_digit.Goals as goal

pub returns : goal.returns
returns c = and_mask c.args.n 1

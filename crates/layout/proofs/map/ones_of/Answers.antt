-- `map::ones_of` meets its contract: a byte has 8 digits.
-- Assumes nothing.
use lib.Count.{ones-le}
use Rattle.layout.proofs.Pass.{digits-all}
use Rattle.layout.proofs.map.ones_of.Goals as goal

pub returns : goal.returns
returns c = (digits-all 8 c.args.b c.ranges.b.fits, ones-le 8 c.args.b c.ranges.b.fits)

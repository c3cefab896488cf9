-- `leaf::real` meets its contract.
use Rattle.leaf.proofs.Leaves.{real-is}
use Rattle.leaf.proofs.real.Goals as goal

pub returns : goal.returns
returns c = real-is c.args.x.now c.requires (rw c.read_bits.ensures at c.unwrap_or.ensures) c.of_bits.ensures

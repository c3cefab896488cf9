-- `leaf::integer` meets its contract.
use Rattle.std.proofs.Common.{rules}
use Rattle.leaf.proofs.Leaves.{integer-is}
use Rattle.leaf.proofs.integer.Goals as goal

pub returns : goal.returns
returns c = integer-is c.args.x.now {n = c.unwrap_or.result} c.requires (rw c.read_integer.ensures at c.unwrap_or.ensures) (search rules)

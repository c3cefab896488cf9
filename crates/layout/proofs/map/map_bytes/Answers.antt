-- `map::map_bytes` meets its contract.
use Rattle.std.proofs.Common.{arith}
use Rattle.semantics.specs.Layout.{map_length}
use Rattle.layout.proofs.map.map_bytes.Goals as goal

pub returns : goal.returns
unfolding map_length
returns c = (omega (arith, c.div_ceil.ensures, c.div_ceil-2.ensures), omega (arith, c.div_ceil.ensures, c.div_ceil-2.ensures))

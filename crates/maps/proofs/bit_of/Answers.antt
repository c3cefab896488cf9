use Rattle.maps.proofs.Maps.{halves}
use native.Mathlib.Omega.{arith}
use Prim.Native.Nat.{◌%◌}
use Rattle.maps.proofs.bit_of.Goals as goal

pub returns : goal.returns
returns c = halves (c.args.w % 8) (omega arith)

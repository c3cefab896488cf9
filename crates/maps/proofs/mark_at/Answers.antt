use mathlib.Core.Path.{ap}
use Prim.Native.Nat.{◌+◌, ◌/◌}
use lib.ListN.{get_or}
use lib.Bits.{bit_or}
use Rattle.layout.proofs.Marks.{past}
use lib.IntN.{pos}
use Rattle.maps.proofs.Maps.{marks-skip, marks-set}
use mathlib.Core.Path.{refl}
use native.Mathlib.Omega.{arith}
use Rattle.maps.proofs.mark_at.Goals as goal

pub returns-then-size-lt4 : goal.returns-then-size-lt4
returns-then-size-lt4 c = marks-skip (pos c.args.off) (λ x. past c.args.size x c.args.off refl (omega arith))

pub returns-then-size-off : goal.returns-then-size-off
returns-then-size-off c = marks-skip (pos c.args.off) (λ x. past c.args.size x c.args.off refl (omega arith))

pub returns : goal.returns
returns c = marks-set c.args.off c.requires (omega arith) (ap (bit_or (get_or c.args.work.now (49152 + c.args.off / 4 / 8) 0)) c.bit_of.ensures) refl

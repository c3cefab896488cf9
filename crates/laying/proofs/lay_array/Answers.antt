-- `laying::lay_array` meets its contract.
use Rattle.std.proofs.Common.{arith, ◌*◌}
use Rattle.laying.proofs.Steps.{array-out, array-in}
use Rattle.laying.proofs.lay_array.Goals as goal

pub returns-then-area-a : goal.returns-then-area-a
returns-then-area-a c =
    let a = c.args in
    array-out a.off (a.size * a.n) a.image.now a.area.now a.s c.outgrown.result c.requires (omega (arith, c.part_at-a.ensures)) c.outgrown.ensures

pub returns-then-room-k : goal.returns-then-room-k
returns-then-room-k c =
    let a = c.args in
    array-out a.off (a.size * a.n) a.image.now a.area.now a.s c.outgrown-then-room-k.result c.requires (omega (arith, c.part_at-a.ensures, c.part_bytes-k.ensures)) c.outgrown-then-room-k.ensures

pub returns : goal.returns
returns c =
    let a = c.args in
    array-in a.off (a.size * a.n) a.image.now a.area.now a.s c.went_on.result c.requires c.part_at-a.ensures (omega (arith, c.part_bytes-k.ensures)) (omega arith) c.put_handle-p.ensures (rw c.max.ensures at c.went_on.ensures)

use Rattle.write.proofs.Writes.{writes_none}
use Rattle.placements.specs.Placements.{placement_at}
use Prim.Native.Nat.{◌*◌}
use Rattle.items.proofs.Rows.{no_row, one_row}
use Rattle.items.proofs.string_row.Goals as goal

pub returns-in-Int : goal.returns-in-Int
returns-in-Int c = λ id. no_row id (4 * c.args.i) c.args.work.now (placement_at c.args.work.now c.args.i) c.element.ensures c.in-Int.is (writes_none _ c.args.w.now.room)

pub returns-in-Str : goal.returns-in-Str
returns-in-Str c = λ id. one_row id (4 * c.args.i) c.args.work.now (placement_at c.args.work.now c.args.i) c.element.ensures c.in-Str.is (c.str_row.ensures id)

use Rattle.write.proofs.Writes.{writes_as}
use Rattle.placements.specs.Placements.{values_in}
use Rattle.items.proofs.Arrays.{number-rows}
use Rattle.items.proofs.element_items.Goals as goal

pub returns-in-Pointer : goal.returns-in-Pointer
returns-in-Pointer c = λ id. rw c.in-Pointer.is (c.string_rows.ensures id)

pub returns-in_default : goal.returns-in_default
returns-in_default c = λ id. writes_as (number-rows id (values_in c.args.work.now 0 c.args.count) c.args.kind c.in_default.not-Pointer) c.elements_row.ensures

use Rattle.codes.specs.Kinds.{element_kind}
use Rattle.semantics.specs.Listing.{row, item_row}
use Rattle.placements.specs.Placements.{values_in}
use Rattle.items.proofs.Arrays.{contents-rows}
use Rattle.items.proofs.contents.Goals as goal

pub returns : goal.returns
unfolding item_row row
returns c = λ f. contents-rows f c.args.off (element_kind c.args.kind) (values_in c.args.work.now 0 c.args.count) (c.set_row.ensures f) (c.element_items.ensures f) c.put_part.ensures

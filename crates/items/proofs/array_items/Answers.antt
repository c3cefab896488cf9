use Rattle.codes.specs.Kinds.{element_kind}
use Rattle.items.proofs.Arrays.{array-empty, array-filled}
use Rattle.items.proofs.array_items.Goals as goal

pub returns-then-count-ne0 : goal.returns-then-count-ne0
returns-then-count-ne0 c = λ f h. let k = element_kind c.args.kind in array-filled f c.args.off k c.args.work.now c.if-count-ne0.true (c.array_row.ensures f k h) (c.contents.ensures f)

pub returns-else-count-ne0 : goal.returns-else-count-ne0
returns-else-count-ne0 c = λ f h. let k = element_kind c.args.kind in array-empty f c.args.off k c.args.work.now c.if-count-ne0.false (c.array_row.ensures f k h)

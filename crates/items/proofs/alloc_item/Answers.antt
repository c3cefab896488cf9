use Rattle.items.proofs.Arrays.{array-alone}
use Rattle.items.proofs.alloc_item.Goals as goal

pub returns : goal.returns
returns c = λ f k h. array-alone f c.args.off k c.args.count (c.array_row.ensures f k h)

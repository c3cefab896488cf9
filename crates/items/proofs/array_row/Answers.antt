use Rattle.semantics.specs.Listing.{row, item_row}
use Rattle.write.proofs.Writes.{writes_then}
use Rattle.items.proofs.array_row.Goals as goal

pub returns : goal.returns
unfolding item_row row
returns c = λ f k h. rw h (writes_then c.put_part.ensures (writes_then c.comma_nat.ensures (writes_then c.comma_nat-2.ensures (writes_then c.comma_nat-3.ensures c.lf.ensures))))

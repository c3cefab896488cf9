use Rattle.semantics.specs.Listing.{row, item_row}
use Rattle.write.proofs.Writes.{writes_then}
use Rattle.items.proofs.set_row.Goals as goal

pub returns : goal.returns
unfolding item_row row
returns c = λ f. writes_then c.put_part.ensures (writes_then c.comma_nat.ensures c.put_part-2.ensures)

-- `image_main::put_row` meets its contract.
use Rattle.write.proofs.Writes.{writes_then}
use Rattle.semantics.specs.Listing.{row}
use Rattle.image_main.proofs.put_row.Goals as goal

pub returns : goal.returns
unfolding row
returns c = writes_then c.put_part.ensures (writes_then c.comma_hex.ensures c.lf.ensures)

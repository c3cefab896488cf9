use Rattle.semantics.specs.Listing.{row}
use Rattle.write.proofs.Writes.{writes_then}
use Rattle.rows.proofs.pending.Goals as goal

pub returns : goal.returns
unfolding row
returns c = writes_then c.put_part.ensures (writes_then c.comma_part.ensures c.lf.ensures)

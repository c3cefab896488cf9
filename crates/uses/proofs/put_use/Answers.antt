use Rattle.write.proofs.Writes.{writes_then}
use Rattle.semantics.specs.Listing.{row}
use Rattle.uses.proofs.put_use.Goals as goal

pub returns : goal.returns
unfolding row
returns c = writes_then c.put_part.ensures (writes_then c.comma_nat.ensures c.lf.ensures)

use Rattle.field_rows.specs.Rows.{field_text}
use Rattle.write.proofs.Writes.{writes_then}
use Rattle.semantics.specs.Listing.{row}
use Rattle.field_rows.proofs.put_row.Goals as goal

pub returns : goal.returns
unfolding field_text row
returns c = writes_then c.put_part.ensures (writes_then c.comma_part.ensures (writes_then c.comma_nat.ensures (writes_then c.comma_nat-2.ensures c.lf.ensures)))

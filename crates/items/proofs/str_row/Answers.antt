use Rattle.items.proofs.Rows.{part-text}
use Rattle.semantics.specs.Listing.{row, item_row}
use Rattle.write.proofs.Writes.{writes_then, writes_as}
use Rattle.items.proofs.str_row.Goals as goal

pub returns : goal.returns
unfolding item_row row
returns c =
    λ id. writes_then c.put_part.ensures (writes_then c.comma_nat.ensures (writes_then (writes_as (part-text c.args.work.now c.args.p c.args.l) c.comma_hex.ensures) c.lf.ensures))

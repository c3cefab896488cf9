use Rattle.write.proofs.Writes.{writes_then}
use Rattle.rows.proofs.comma_flag.Goals as goal
use Rattle.rows.proofs.comma_flag.Goals.{then-b, else-b}

pub returns : goal.returns
returns c =
    elim c.if-b.branch [
      | then-b w ↦ rw w.if-b.true (writes_then c.put.ensures (rw w.put-is at c.put-2.ensures))
      | else-b w ↦ rw w.if-b.false (writes_then c.put.ensures (rw w.put-is at c.put-2.ensures))
    ]

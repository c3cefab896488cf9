use Rattle.record_rows.proofs.Entries.{tag-plain, tag-variant}
use Rattle.write.proofs.Writes.{writes_as, writes_then}
use Rattle.record_rows.proofs.put_tag.Goals as goal

pub returns-then-c-eq0 : goal.returns-then-c-eq0
returns-then-c-eq0 c = λ s. writes_as (tag-plain s c.args.work.now c.args.i c.case_of-c.ensures.0 c.if-c-eq0.true) c.put_part.ensures

pub returns : goal.returns
returns c = λ s. writes_as (tag-variant s c.args.work.now c.args.i c.case_of-c.ensures.0 c.if-c-eq0.false c.number_of.ensures.0) (writes_then c.comma_nat.ensures c.comma_nat-2.ensures)

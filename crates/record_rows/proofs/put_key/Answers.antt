use Rattle.record_rows.proofs.Entries.{key-plain, key-variant}
use Rattle.write.proofs.Writes.{writes_as, writes_then}
use Rattle.record_rows.proofs.put_key.Goals as goal

pub returns-then-case_of-eq0 : goal.returns-then-case_of-eq0
returns-then-case_of-eq0 c = writes_as (key-plain c.args.sheet.now c.args.work.now c.args.i c.name_of.ensures c.case_of.ensures.0 c.if-case_of-eq0.true) c.comma_part.ensures

pub returns : goal.returns
returns c = writes_as (key-variant c.args.sheet.now c.args.work.now c.args.i c.name_of.ensures c.case_of.ensures.0 c.if-case_of-eq0.false c.tag_of.ensures) (writes_then (writes_then c.comma_part.ensures c.put.ensures) c.put_part.ensures)

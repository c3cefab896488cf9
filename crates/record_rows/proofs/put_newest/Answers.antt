use Rattle.record_rows.proofs.Keys.{rows-first, rows-later}
use Rattle.checks.proofs.Kept.{kept-all}
use Rattle.write.proofs.Writes.{writes_none, writes_as}
use Rattle.record_rows.proofs.put_newest.Goals as goal

pub returns-then-is_first : goal.returns-then-is_first
returns-then-is_first c = record { wrote = writes_as (rows-first c.args.sheet.now c.args.work.now c.args.i (record { m = _; log = c.requires.0; low = c.requires.1 }) c.is_first.ensures c.if-is_first.true c.newest_of-j.result c.newest_of-j.ensures) c.put_record.ensures.wrote; kept = c.put_record.ensures.kept }

pub returns-else-is_first : goal.returns-else-is_first
returns-else-is_first c = record { wrote = writes_as (rows-later c.args.sheet.now c.args.work.now c.args.i (record { m = _; log = c.requires.0; low = c.requires.1 }) c.is_first.ensures c.if-is_first.false) (writes_none _ c.args.w.now.room); kept = kept-all }

use Rattle.record_rows.proofs.Entries.{head-text}
use Rattle.records.specs.Log.{recorded_at}
use Rattle.record_rows.proofs.put_head.Goals as goal

pub returns : goal.returns
returns c = head-text (recorded_at c.args.sheet.now c.args.work.now c.args.i) c.put_part.ensures c.put_key.ensures (c.put_tag.ensures c.args.sheet.now)

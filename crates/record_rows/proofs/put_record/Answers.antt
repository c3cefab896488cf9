use native.Mathlib.Omega.{arith}
use Rattle.record_rows.proofs.Entries.{record-text}
use Rattle.records.proofs.Kept.{recorded-kept, logged-kept}
use Rattle.records.specs.Log.{recorded_at}
use Rattle.checks.proofs.Kept.{kept_less}
use Rattle.write.proofs.Writes.{writes_as, writes_then}
use Rattle.record_rows.proofs.put_record.Goals as goal

pub put_fields-requires : goal.put_fields-requires
put_fields-requires c = (logged-kept (kept_less (omega arith) c.put_shape.ensures.kept) c.requires.log).entries _ c.requires.low

pub returns : goal.returns
returns c = record { wrote = writes_as (record-text (recorded_at c.args.sheet.now c.args.work.now c.args.i)) (writes_then (writes_then c.put_head.ensures c.put_shape.ensures.wrote) (rw (recorded-kept (kept_less (omega arith) c.put_shape.ensures.kept) c.args.sheet.now c.args.i (omega (arith, c.requires.low, c.requires.log.few))) at c.put_fields.ensures)); kept = c.put_shape.ensures.kept }

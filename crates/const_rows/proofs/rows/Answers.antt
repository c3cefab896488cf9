use Rattle.std.proofs.Common.{arith}
use Rattle.const_rows.proofs.Laws.{rows_start, rows_next}
use Rattle.write.proofs.Writes.{writes_none}
use Rattle.const_rows.proofs.rows.Goals as goal

pub loop-i-init : goal.loop-i-init
loop-i-init c = (omega arith, rows_start c.args.sheet.now c.args.work.now c.args.consts c.args.plain (writes_none _ c.args.w.now.room))

pub loop-i-preserved : goal.loop-i-preserved
loop-i-preserved c = (omega (arith, c.loop-i-test.true), rows_next c.args.sheet.now c.args.work.now c.args.consts c.args.plain c.loop-i.i c.loop-i.invariant.1 c.entry_row.ensures)

use Rattle.std.proofs.Common.{sym, arith}
use Rattle.form.proofs.Laws.{row-start, row_here, row_next, row-end}
use Rattle.form.proofs.row_in.Goals as goal

pub loop-f-init : goal.loop-f-init
loop-f-init c = row-start c.args.l.now

pub returns-then-begins_with-clause-value : goal.returns-then-begins_with-clause-value
returns-then-begins_with-clause-value c = row_here c.args.l.now c.loop-f.f c.loop-f-test.true c.loop-f.invariant (sym c.if-begins_with.ensures)

pub loop-f-preserved : goal.loop-f-preserved
loop-f-preserved c = row_next c.args.l.now c.loop-f.f c.loop-f-test.true c.loop-f.invariant (sym c.if-begins_with.ensures)

pub returns-clause-value : goal.returns-clause-value
returns-clause-value c = row-end c.args.l.now c.loop-f.f (omega arith) c.loop-f.invariant

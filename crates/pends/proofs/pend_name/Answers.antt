-- `pends::pend_name` meets its contract.
use Rattle.write.proofs.Writes.{writes_none, writes_as}
use Rattle.pends.proofs.Rows.{name-nil, name-row}
use Rattle.pends.proofs.pend_name.Goals as goal

pub returns-then-is_nil : goal.returns-then-is_nil
returns-then-is_nil c = writes_as (name-nil c.args.name.now c.is_nil.ensures c.if-is_nil.true) (writes_none _ c.args.w.now.room)

pub returns : goal.returns
returns c = writes_as (name-row c.args.name.now c.is_nil.ensures c.if-is_nil.false) c.pending.ensures

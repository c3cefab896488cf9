use Rattle.std.proofs.Common.{rules}
-- `vars::first_value` meets its contract.
use Rattle.vars.proofs.Values.{first-none, first-folded, first-long, first-array, array-task}
use Rattle.vars.proofs.Lines.{value-foldable}
use Rattle.vars.proofs.first_value.Goals as goal

pub returns-then-q-eq0 : goal.returns-then-q-eq0
returns-then-q-eq0 c = first-none c.requires.0 c.number_at-q.ensures.0 _ c.if-q-eq0.true

pub fold_const-requires : goal.fold_const-requires
fold_const-requires c = value-foldable c.requires.0 c.number_at-q.ensures.0 c.if-q-eq0.false c.requires.1 (search rules)

pub array_value-requires : goal.array_value-requires
array_value-requires c = array-task c.requires.0 c.number_at-q.ensures.0 c.if-q-eq0.false c.requires.1 c.fold_const.ensures (rw c.in-Err-Failed.field-0-is at c.in-Err-Failed.is)

pub returns-in-Ok : goal.returns-in-Ok
returns-in-Ok c = first-folded c.requires.0 c.number_at-q.ensures.0 c.if-q-eq0.false c.requires.1 c.fold_const.ensures c.in-Ok.is

pub returns-in-Err-Failed : goal.returns-in-Err-Failed
returns-in-Err-Failed c = first-array c.requires.0 c.number_at-q.ensures.0 c.if-q-eq0.false c.requires.1 c.fold_const.ensures (rw c.in-Err-Failed.field-0-is at c.in-Err-Failed.is) c.array_value.ensures

pub returns-in-Err-LongString : goal.returns-in-Err-LongString
returns-in-Err-LongString c = first-long c.requires.0 c.number_at-q.ensures.0 c.if-q-eq0.false c.requires.1 c.fold_const.ensures (rw c.in-Err-LongString.field-0-is at c.in-Err-LongString.is)

-- `consts::take_constant` meets its contract.
use Rattle.std.proofs.Common.{rules}
use Rattle.implement.specs.Modules.{line_number}
use Rattle.consts.proofs.Steps as Steps
use Rattle.consts.proofs.take_constant.Goals as goal

pub fold_const-requires : goal.fold_const-requires
fold_const-requires c =
    let a = c.args in
    Steps.value-foldable a.sheet.now a.work.now a.consts (line_number a.k) a.i c.requires c.number_at-r.result c.number_at-r.ensures.0 (search rules)

pub returns-in-Ok : goal.returns-in-Ok
returns-in-Ok c =
    let a = c.args in
    let named = Steps.digest-is a.sheet.now (line_number a.k) a.i c.field_at-name.ensures.0 c.const_digest-d.ensures.0 in
    Steps.took-value a.sheet.now a.work.now a.consts (line_number a.k) a.i c.requires c.number_at-r.result c.number_at-r.ensures.0 a.iota _ _ c.fold_const.ensures named (search rules) _ c.in-Ok.is (rw c.line_number-within.ensures at c.enter.ensures)

pub returns-in-Err-Failed : goal.returns-in-Err-Failed
returns-in-Err-Failed c =
    let a = c.args in
    let named = Steps.digest-is a.sheet.now (line_number a.k) a.i c.field_at-name.ensures.0 c.const_digest-d.ensures.0 in
    Steps.took-failed a.sheet.now a.work.now a.consts (line_number a.k) a.i c.requires c.number_at-r.result c.number_at-r.ensures.0 a.iota _ _ c.fold_const.ensures named (search rules) _ (rw c.in-Err-Failed.field-0-is at c.in-Err-Failed.is) (rw c.line_number-within.ensures at c.enter_failed.ensures)

pub returns-in-Err-LongString : goal.returns-in-Err-LongString
returns-in-Err-LongString c =
    let a = c.args in
    Steps.took-none a.sheet.now a.work.now a.consts (line_number a.k) a.i c.requires c.number_at-r.result c.number_at-r.ensures.0 a.iota _ _ c.fold_const.ensures (rw c.in-Err-LongString.field-0-is at c.in-Err-LongString.is)

-- `consts::visit_constant` meets its contract.
use Rattle.std.proofs.lemmas.Result.{err_from_is_err_and}
use Rattle.implement.specs.Modules.{line_number}
use Rattle.consts.proofs.Walk as Walk
use Rattle.consts.proofs.visit_constant.Goals as goal

pub take_constant-requires : goal.take_constant-requires
take_constant-requires c = Walk.const-line c.args.sheet.now c.args.work.now (line_number c.args.k) c.args.p c.requires.0 c.requires.1

pub returns-in_err-take_constant : goal.returns-in_err-take_constant
returns-in_err-take_constant c =
    let e = c.in_err-take_constant.ensures in
    let p = err_from_is_err_and c.from_residual.result c.from_residual.ensures.1 in
    rw (p.1, p.2) (e.0, Walk.visit-refused c.args.sheet.now c.args.work.now (line_number c.args.k) c.args.p c.requires.0 c.requires.1 c.number_at-line.result c.number_at-col.result c.number_at-line.ensures.0 c.number_at-col.ensures.0 c.advance-stepped.result c.advance-stepped.ensures _ e.0 c.in_err-take_constant.field-0.0 e.1)

pub returns : goal.returns
returns c =
    let e = c.in_ok-take_constant.ensures in
    (e.0, Walk.visit-on c.args.sheet.now c.args.work.now (line_number c.args.k) c.args.p c.requires.0 c.requires.1 c.number_at-line.result c.number_at-col.result c.number_at-line.ensures.0 c.number_at-col.ensures.0 c.advance-stepped.result c.advance-stepped.ensures _ e.0 e.1)

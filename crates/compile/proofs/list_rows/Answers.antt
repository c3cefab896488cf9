-- `compile::list_rows` meets its contract.
use Rattle.std.proofs.Common.{rules, refl, length, arith}
use Rattle.std.proofs.lemmas.Result.{err_from_is_err_and}
use Rattle.compile.proofs.Laws.{lays, outgrows, value-refused}
use Rattle.compile.proofs.list_rows.Goals as goal

pub returns-in_err-put_rows : goal.returns-in_err-put_rows
returns-in_err-put_rows c =
    let p = err_from_is_err_and c.from_residual.result c.from_residual.ensures.1 in
    rw (p.1, p.2) (value-refused c.requires.0 (length c.args.listing.now) c.in_err-put_rows.field-0.0 c.in_err-put_rows.ensures)

pub returns-then-room-length : goal.returns-then-room-length
returns-then-room-length c =
    let e = c.in_ok-put_rows.ensures in
    outgrows c.requires.0 (length c.args.listing.now) c.requires.1 refl refl e.0 e.1.wrote (omega (arith, c.if-room-length.true))

pub returns : goal.returns
returns c =
    let e = c.in_ok-put_rows.ensures in
    lays c.requires.0 (length c.args.listing.now) c.requires.1 refl (search (rules, e.1.same_buffer)) e.0 e.1.wrote c.if-room-length.false refl e.2

-- `compile::put_rows` meets its contract.
use Rattle.std.proofs.lemmas.Result.{err_from_is_err_and}
use Rattle.compile.proofs.Laws.{pends-written, pends-refused, listing-rows}
use Rattle.parts.proofs.Kept.{listable-keeps}
use Rattle.compile.proofs.put_rows.Goals as goal

pub put_types-requires : goal.put_types-requires
put_types-requires c = listable-keeps c.pend_rows.ensures.1 c.put_declared.ensures.1

pub returns : goal.returns
returns c =
    let k = c.put_declared.ensures.1 in
    let p = pends-written k _ _ c.in_ok-pend_rows.ensures.0 in
    (p.0, listing-rows k c.put_declared.ensures.0 p.1 c.put_types.ensures.0, c.put_types.ensures.1)

pub returns-in_err-pend_rows : goal.returns-in_err-pend_rows
returns-in_err-pend_rows c =
    let p = err_from_is_err_and c.from_residual.result c.from_residual.ensures.1 in
    rw (p.1, p.2) (pends-refused c.put_declared.ensures.1 _ _ c.in_err-pend_rows.field-0.0 c.in_err-pend_rows.ensures.0)

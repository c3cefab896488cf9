-- `tables::make_tables` meets its contract.
use Rattle.std.proofs.lemmas.Result.{err_from_is_err_and}
use Rattle.tables.proofs.Laws.{still-checked, log-as}
use Rattle.checks.proofs.Kept.{kept_then}
use mathlib.Core.Path.{◌∙◌, sym}
use Rattle.tables.proofs.make_tables.Goals as goal

pub make_others-requires : goal.make_others-requires
make_others-requires c = let e = c.in_ok-m.ensures in (still-checked c.requires e.0, e.1.2)

pub returns-in_err-m : goal.returns-in_err-m
returns-in_err-m c =
    let e = c.in_err-m.ensures in
    let p = err_from_is_err_and c.from_residual.result c.from_residual.ensures.1 in
    rw (p.1, p.2) (e.1, e.0)

pub returns : goal.returns
returns c =
    let e = c.in_ok-m.ensures in
    let h = c.make_others.ensures in
    ((h.0, e.1.0, e.1.1 ∙ sym h.2 ∙ log-as c.args.sheet.now _ h.1), kept_then e.0 h.3)

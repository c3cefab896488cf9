-- `export::limbo_sheet_compile` meets its contract: each arm is one law.
use Rattle.export.proofs.Laws.{listed-as, refused_as}
use lib.ListN.{length}
use Rattle.export.proofs.limbo_sheet_compile.Goals as goal

pub returns-in-Ok : goal.returns-in-Ok
returns-in-Ok c =
    let a = c.args in
    listed-as a.sheet.now (length a.listing.now) (length a.work.now) _ _ c.compile.auto.listing c.in-Ok.ensures

pub returns-in-Err : goal.returns-in-Err
returns-in-Err c =
    let a = c.args in
    refused_as a.sheet.now (length a.listing.now) (length a.work.now) _ _ c.in-Err.r c.number.ensures c.line.ensures c.in-Err.ensures

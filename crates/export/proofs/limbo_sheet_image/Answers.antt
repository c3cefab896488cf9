-- `export::limbo_sheet_image` meets its contract: each arm is one law.
use Rattle.export.proofs.Laws.{laid_as, not-laid-as}
use Rattle.image.specs.Image.{lent_of}
use Rattle.export.proofs.limbo_sheet_image.Goals as goal

pub returns-in-Ok : goal.returns-in-Ok
returns-in-Ok c =
    let a = c.args in
    let f = c.image in
    laid_as a.sheet.now (lent_of a.listing.now a.image.now a.area.now a.work.now) _ _ _ _ c.in-Ok.laid f.auto.image f.auto.area c.in-Ok.ensures.0 c.in-Ok.ensures.1

pub returns-in-Err : goal.returns-in-Err
returns-in-Err c =
    let a = c.args in
    not-laid-as a.sheet.now (lent_of a.listing.now a.image.now a.area.now a.work.now) _ _ _ _ c.in-Err.r c.number.ensures c.line.ensures c.in-Err.ensures.0 c.in-Err.ensures.1

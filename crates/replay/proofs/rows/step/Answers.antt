-- `replay::rows::step` meets its contract.
use Rattle.std.proofs.Common.{◌∙◌, sym}
use Rattle.replay.proofs.Texts.{lays-as, lays-none, row_other, row-item, row-none}
use Rattle.replay.specs.Rows.{element_size_at}
use Rattle.replay.proofs.rows.step.Goals as goal

pub returns-then-not-same : goal.returns-then-not-same
returns-then-not-same c =
    let a = c.args in
    lays-none a.image.now a.area.now c.requires (row_other (element_size_at a.work.now) a.row.now _ c.field.ensures (sym c.same.ensures ∙ c.if-not-same.true))

pub returns-in-Some : goal.returns-in-Some
returns-in-Some c =
    let a = c.args in
    lays-as (row-item (element_size_at a.work.now) a.row.now _ c.field.ensures (sym c.same.ensures ∙ c.if-not-same.false) c.in-Some.ensures c.field-2.ensures) c.lay_item.ensures

pub returns-in-None : goal.returns-in-None
returns-in-None c =
    let a = c.args in
    lays-none a.image.now a.area.now c.requires (row-none (element_size_at a.work.now) a.row.now _ c.field.ensures (sym c.same.ensures ∙ c.if-not-same.false) c.in-None.ensures c.field-2.ensures)

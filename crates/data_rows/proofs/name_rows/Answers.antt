use Rattle.global_table.specs.Table.{places_in}
use Rattle.vars.specs.First.{first_in}
use Rattle.checks.proofs.Kept.{outside-all}
use Rattle.data_rows.proofs.Printed.{printed-as, printed-none}
use Rattle.data_rows.proofs.Names.{name-nil, name-items}
use Rattle.data_rows.proofs.name_rows.Goals as goal

pub returns-then-is_nil : goal.returns-then-is_nil
returns-then-is_nil c =
    let a = c.args in
    (λ ty h. printed-as (name-nil ty (places_in a.sheet.now a.work.now a.c.globals) (first_in a.work.now a.x) a.name.now c.is_nil.ensures c.if-is_nil.true) printed-none, outside-all)

pub returns : goal.returns
returns c =
    let a = c.args in
    (λ ty h. printed-as (name-items ty (places_in a.sheet.now a.work.now a.c.globals) (first_in a.work.now a.x) a.name.now c.is_nil.ensures c.if-is_nil.false c.offset_in.ensures.0 c.unwrap_or-off.ensures) (c.first_rows.ensures.0 a.sheet.now ty c.requires.held.framed h), c.first_rows.ensures.1)

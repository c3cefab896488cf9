-- `global_table::line::type_of` meets its contract.
use Rattle.global_table.proofs.VarLine.{type-line, type-on}
use Rattle.global_table.proofs.line.type_of.Goals as goal

pub returns : goal.returns
returns c =
    let a = c.args in
    (type-line a.sheet.now a.r c.requires c.number_at.result c.number_at.ensures.0, type-on a.sheet.now a.r c.requires c.number_at.result c.number_at.ensures.0)

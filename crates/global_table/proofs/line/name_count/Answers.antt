-- `global_table::line::name_count` meets its contract.
use Rattle.global_table.proofs.VarLine.{count-on}
use Rattle.global_table.proofs.line.name_count.Goals as goal

pub returns : goal.returns
returns c =
    let a = c.args in
    count-on a.sheet.now a.r c.requires c.number_at.result c.number_at.ensures.0

use Rattle.parts.proofs.Laws.{constants-table, declared-rows}
use Rattle.parts.proofs.Kept.{listable-kept}
use Rattle.parts.proofs.put_declared.Goals as goal

pub const_rows-requires : goal.const_rows-requires
const_rows-requires c = constants-table (listable-kept c.record_rows.ensures.kept c.requires)

pub global_rows-requires : goal.global_rows-requires
global_rows-requires c = (listable-kept c.record_rows.ensures.kept c.requires).held.globals.tabled

pub returns : goal.returns
returns c =
    let k = listable-kept c.record_rows.ensures.kept c.requires in
    (declared-rows k c.record_rows.ensures.wrote c.const_rows.ensures c.global_rows.ensures, k)

use Rattle.global_table.specs.Table.{type_on}
use Rattle.data_rows.proofs.Names.{names-printed-start, names-printed-next, names-printed-end}
use Rattle.data_rows.proofs.names_rows.Goals as goal

pub loop-j-init : goal.loop-j-init
loop-j-init c = names-printed-start c.requires.0 c.requires.1 c.name_count-count.ensures.0

pub loop-j-preserved : goal.loop-j-preserved
loop-j-preserved c = names-printed-next c.loop-j.invariant c.loop-j-test.true c.name_at-name.ensures (c.name_rows-keys.ensures.0 (type_on c.args.sheet.now c.args.r) c.is_big-big.ensures, c.name_rows-keys.ensures.1)

pub returns : goal.returns
returns c = names-printed-end c.loop-j.invariant c.loop-j-test.false

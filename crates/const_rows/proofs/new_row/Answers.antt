-- `const_rows::new_row` meets its contract.
use Rattle.std.proofs.Common.{sym, ◌∙◌}
use Rattle.names.specs.Table.{key_of}
use Rattle.write.proofs.Writes.{writes_as, writes_none}
use Rattle.const_rows.proofs.Laws.{old-key}
use Rattle.const_rows.proofs.new_row.Goals as goal

pub returns-then-is_some : goal.returns-then-is_some
returns-then-is_some c =
    let a = c.args in
    writes_as (old-key a.sheet.now a.work.now a.consts a.i (key_of a.key) c.look_up_before.result c.look_up_before.ensures.has (sym c.is_some.ensures ∙ c.if-is_some.true)) (writes_none _ a.w.now.room)

-- `const_rows::key_row` meets its contract.
use Rattle.names.specs.Table.{key_of}
use Rattle.write.proofs.Writes.{writes_as, writes_then}
use Rattle.const_rows.proofs.Laws.{row_shown}
use Rattle.const_rows.proofs.key_row.Goals as goal

pub returns : goal.returns
returns c = writes_as (row_shown c.args.sheet.now c.args.work.now c.args.consts (key_of c.args.key) c.look_up-r.result c.look_up-r.ensures.value) (writes_then c.put_part.ensures (writes_then c.put_key.ensures (writes_then c.put.ensures c.put_value.ensures)))

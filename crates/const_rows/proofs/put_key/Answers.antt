-- `const_rows::put_key` meets its contract.
use Rattle.write.proofs.Writes.{writes_as, writes_then}
use Rattle.const_rows.proofs.Laws.{key-within, key-plain}
use Rattle.const_rows.proofs.put_key.Goals as goal
use Rattle.const_rows.proofs.put_key.Goals.{in-Some, in_default}

pub returns : goal.returns
returns c = elim c.match-key.branch [
  | in-Some w ↦ writes_as (key-within c.args.key w.in-Some.is) (writes_then (writes_then w.put_part.ensures w.put_part-in-Some.ensures) (rw w.w-is at c.put_part-2.ensures))
  | in_default w ↦ writes_as (key-plain c.args.key w.in_default.is) (rw w.w-is at c.put_part-2.ensures)
]

use Rattle.std.proofs.Common.{ℕ}
use Rattle.semantics.specs.Global.{str_items}
use Rattle.write.proofs.Writes.{writes_none}
use Rattle.placements.specs.Placements.{values_in}
use Rattle.items.specs.Items.{item_rows}
use Rattle.items.proofs.Arrays.{strings-next, up_to}
use Rattle.items.proofs.string_rows.Goals as goal

pub loop-i-init : goal.loop-i-init
unfolding values_in item_rows
loop-i-init c = λ id. writes_none _ c.args.w.now.room

pub loop-i-preserved : goal.loop-i-preserved
loop-i-preserved c = λ id. strings-next c.args.work.now c.loop-i.i id (c.loop-i.invariant id) (c.string_row.ensures id)

pub returns : goal.returns
returns c = λ id. up_to (λ (n : ℕ). item_rows id (str_items 0 (values_in c.args.work.now 0 n))) c.loop-i.auto.i-end c.loop-i-test.false (c.loop-i.invariant id)

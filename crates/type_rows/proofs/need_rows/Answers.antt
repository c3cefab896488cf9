use Rattle.std.proofs.Common.{arith}
use Rattle.type_rows.proofs.Wrotes.{types-none, ready-kept}
use Rattle.type_rows.proofs.need_rows.Goals as goal

pub loop-q-init : goal.loop-q-init
loop-q-init c = (omega arith, types-none)

pub next_need-id-requires : goal.next_need-id-requires
next_need-id-requires c = (ready-kept c.loop-q.invariant.1.kept c.requires.0, omega (arith, c.loop-q-test.true, c.requires.1), c.requires.2, c.loop-q.invariant.0)

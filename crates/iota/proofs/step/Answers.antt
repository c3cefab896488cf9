-- `iota::step` meets its contract.
use Rattle.iota.proofs.Counter.{stepped-is}
use Rattle.iota.proofs.step.Goals as goal

pub returns : goal.returns
returns c = stepped-is c.args.c c.args.line c.args.col c.value_at-value.ensures c.behind.ensures

-- `iota::value_at` meets its contract.
use Rattle.iota.proofs.Counter.{value_on, value_anew}
use Rattle.iota.proofs.value_at.Goals as goal

pub returns-then-col-c : goal.returns-then-col-c
returns-then-col-c c = value_on c.args.c c.args.line c.args.col c.if-c.true c.if-line-c.true c.if-col-c.true

pub returns-else-c : goal.returns-else-c
returns-else-c c = value_anew c.args.c c.args.line c.args.col c.else-c.either

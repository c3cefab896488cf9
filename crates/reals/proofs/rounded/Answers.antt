-- `reals::rounded` meets its contract: the rest is above half of 2048, half of it, or below.
use Rattle.reals.proofs.Leading.{rounded-up, rounded-tie, rounded-down}
use Rattle.reals.proofs.rounded.Goals as goal

pub returns-then-rest-gt1024 : goal.returns-then-rest-gt1024
returns-then-rest-gt1024 c = rounded-up c.args.m c.if-rest-gt1024.true

pub returns-then-rest-eq1024 : goal.returns-then-rest-eq1024
returns-then-rest-eq1024 c = rounded-tie c.args.m c.if-rest-eq1024.true c.last_digit.ensures

pub returns : goal.returns
returns c = rounded-down c.args.m c.if-rest-gt1024.false c.if-rest-eq1024.false

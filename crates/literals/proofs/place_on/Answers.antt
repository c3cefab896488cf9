-- `literals::place_on` meets its contract.
use Rattle.literals.proofs.Placing.{moves-into}
use Rattle.literals.proofs.place_on.Goals as goal

pub returns : goal.returns
returns c = moves-into c.args.work.now c.args.e c.args.low c.args.high c.in_ok-x.was c.ranges.low c.ranges.high c.place_indices.ensures

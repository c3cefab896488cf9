-- `literals::place_selector` meets its contract.
use Rattle.std.proofs.Common.{rules}
use Rattle.literals.proofs.Placing.{selects-span}
use Rattle.literals.proofs.place_selector.Goals as goal

pub returns : goal.returns
returns c = selects-span c.args.work.now c.args.e c.span_of.ensures.1 c.args.x c.span_of.result c.span_of.ensures.0 c.in_ok-low.was (search rules) (search rules) c.place_on.ensures

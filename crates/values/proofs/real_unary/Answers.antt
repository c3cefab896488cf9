-- `values::real_unary` meets its contract.
use lib.Ieee.{neg}
use borrow.Author.Rules.{rules}
use Rattle.values.specs.Values.{value_in, result_in}
use Rattle.values.proofs.Values.{answers-failed, real-fails}
use Rattle.values.proofs.real_unary.Goals as goal

pub returns-in-Neg : goal.returns-in-Neg
unfolding neg value_in result_in
returns-in-Neg c = search rules

pub returns-in_default : goal.returns-in_default
returns-in_default c = answers-failed (real-fails c.args.op c.args.x c.in_default.not-Neg)

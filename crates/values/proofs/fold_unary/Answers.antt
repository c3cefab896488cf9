use Rattle.values.proofs.Values.{unary_of_int, unary-of}
use Rattle.values.specs.Values.{value_in}
use borrow.Author.Rules.{rules}
use Rattle.values.proofs.fold_unary.Goals as goal

pub returns-in-Int : goal.returns-in-Int
returns-in-Int c = unary_of_int c.args.op c.in-Int.is (search rules) c.int_unary.ensures

pub returns-in-Real : goal.returns-in-Real
unfolding value_in
returns-in-Real c = unary-of c.args.op c.in-Real.is c.real_unary.ensures

use Rattle.values.proofs.Values.{binds, binds-ints, binds-int-real, binds-real-int, binds-reals}
use borrow.Author.Rules.{rules}
use Rattle.values.proofs.fold_binary.Goals as goal

pub returns-in-Int-Int : goal.returns-in-Int-Int
returns-in-Int-Int c = binds c.args.op c.in-Int-Int.is-0 c.in-Int-Int.is-1 (binds-ints c.args.op (search rules) (search rules) c.int_binary.ensures)

pub returns-in-Int-Real : goal.returns-in-Int-Real
returns-in-Int-Real c = binds c.args.op c.in-Int-Real.is-0 c.in-Int-Real.is-1 (binds-int-real c.args.op c.in-Int-Real.b (search rules) c.from_i64.ensures c.real_binary.ensures)

pub returns-in-Real-Int : goal.returns-in-Real-Int
returns-in-Real-Int c = binds c.args.op c.in-Real-Int.is-0 c.in-Real-Int.is-1 (binds-real-int c.args.op c.in-Real-Int.a (search rules) c.from_i64-in-Real-Int.ensures c.real_binary-in-Real-Int.ensures)

pub returns-in-Real-Real : goal.returns-in-Real-Real
returns-in-Real-Real c = binds c.args.op c.in-Real-Real.is-0 c.in-Real-Real.is-1 (binds-reals c.args.op c.in-Real-Real.a c.in-Real-Real.b c.real_binary-in-Real-Real.ensures)

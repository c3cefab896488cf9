use Rattle.values.proofs.Values.{bits-int}
use borrow.Author.Rules.{rules}
use Rattle.values.proofs.bits_of.Goals as goal

pub returns-in-Int : goal.returns-in-Int
returns-in-Int c = bits-int c.in-Int.is (search rules) c.bits.ensures

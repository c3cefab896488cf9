-- `write::hex_digit` meets its contract.
use native.Mathlib.Omega.{arith}
use borrow.Author.Tests.{lt-ltb, le-ltb}
use Rattle.write.proofs.hex_digit.Goals as goal

pub returns-then-d-lt10 : goal.returns-then-d-lt10
returns-then-d-lt10 c = simp (lt-ltb c.args.d 10 c.if-d-lt10.true)

pub returns : goal.returns
returns c = rw (le-ltb c.args.d 10 c.if-d-lt10.false) (omega arith)

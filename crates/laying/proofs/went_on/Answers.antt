-- `laying::went_on` meets its contract.
use Rattle.std.proofs.Common.{refl, arith, add-one}
use borrow.Author.Tests.{le-ltb}
use Rattle.laying.specs.Steps.{seen_laying, laying_of}
use Rattle.laying.proofs.Steps.{went-out}
use Rattle.laying.proofs.went_on.Goals as goal

pub returns-then-n-p : goal.returns-then-n-p
returns-then-n-p c = went-out c.if-n-p.true c.outgrown.ensures

pub returns : goal.returns
unfolding seen_laying laying_of
returns c = record { is = λ image area. rw (le-ltb c.args.n c.args.p c.if-n-p.false, add-one); start = refl; end = refl; item = omega arith }

-- `laying::moved` meets its contract.
use Rattle.std.proofs.Common.{refl, arith, add-one}
use Rattle.laying.specs.Steps.{seen_laying, laying_of}
use Rattle.laying.proofs.moved.Goals as goal

pub returns : goal.returns
unfolding seen_laying laying_of
returns c = record { is = λ image area. rw add-one; start = refl; end = refl; item = omega arith }

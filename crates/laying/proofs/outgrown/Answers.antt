-- `laying::outgrown` meets its contract.
use Rattle.std.proofs.Common.{refl}
use Rattle.laying.specs.Steps.{seen_laying}
use Rattle.laying.proofs.outgrown.Goals as goal

pub returns : goal.returns
unfolding seen_laying
returns c = record { is = λ image area. refl; start = refl; end = refl; item = refl }

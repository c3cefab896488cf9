-- `replay::rows::first` meets its contract.
use Rattle.replay.specs.Rows.{begun}
use Rattle.laying.specs.Steps.{seen_laying, laying_of}
use mathlib.Core.Path.{refl}
use Rattle.replay.proofs.rows.first.Goals as goal

pub returns : goal.returns
unfolding seen_laying laying_of begun
returns c = record { is = λ image area e. rw e; start = refl; part = refl; item = refl }

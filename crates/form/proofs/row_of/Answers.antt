-- `form::row_of` meets its contract.
use mathlib.Core.Path.{refl}
use Rattle.semantics.specs.Form.{forms}
use Rattle.form.proofs.row_of.Goals as goal

pub row_in-requires : goal.row_in-requires
unfolding forms
row_in-requires c = refl

use Rattle.records.specs.Log.{name_of}
use mathlib.Core.Path.{◌∙◌}
use Rattle.records.proofs.key.name_of.Goals as goal

pub returns : goal.returns
unfolding name_of
returns c = c.record_name.ensures ∙ rw c.line_of.ensures

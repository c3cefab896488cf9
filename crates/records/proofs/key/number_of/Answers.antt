use Rattle.records.specs.Log.{entry_at}
use Rattle.records.proofs.key.number_of.Goals as goal

pub returns : goal.returns
unfolding entry_at
returns c = c.byte_at.ensures

use Rattle.records.specs.Log.{entry_at}
use Rattle.records.proofs.key.line_of.Goals as goal

pub returns : goal.returns
unfolding entry_at
returns c = rw (c.byte_at.ensures.0, c.byte_at-2.ensures.0)

use Rattle.sizes.proofs.Types.{marks-first}
use Rattle.sizes.proofs.is_pointer.Goals as goal

pub returns : goal.returns
returns c = marks-first c.requires c.form_at.ensures.0

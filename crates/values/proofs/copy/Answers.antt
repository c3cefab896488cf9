-- `values::copy` meets its contract.
use Rattle.std.proofs.Common.{◌∙◌, arith}
use Rattle.values.proofs.Written.{copied}
use Rattle.values.proofs.copy.Goals as goal

pub returns : goal.returns
returns c = c.copy_within.ensures.after ∙ copied c.args.work.now c.requires (omega arith)

-- `arrays::const_array` meets its contract.
use Rattle.std.proofs.Common.{rules}
use Rattle.arrays.proofs.Wholes.{other-line}
use Rattle.arrays.proofs.const_array.Goals as goal

pub returns-in_default : goal.returns-in_default
returns-in_default c = other-line c.requires.0 c.args.consts c.form_at.ensures.0 (search rules) (search rules)

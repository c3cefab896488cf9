use Rattle.values.proofs.Values.{casts-real}
use Rattle.values.proofs.fold_cast.Goals as goal

pub returns-in-Real : goal.returns-in-Real
returns-in-Real c = casts-real c.args.code c.args.work.now c.args.top c.in-Real.is (c.cast_real.ensures c.args.work.now c.args.top)

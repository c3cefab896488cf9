use Rattle.std.proofs.Common.{rules}
use Rattle.literals.proofs.Selectors.{foldable, index_is}
use Rattle.literals.proofs.index_of.Goals as goal

pub fold_const-requires : goal.fold_const-requires
fold_const-requires c = foldable c.requires (search rules)

pub returns : goal.returns
returns c = (index_is c.as_int.result c.fold_const.ensures (c.as_int.ensures _), c.fold_const.ensures.kept)

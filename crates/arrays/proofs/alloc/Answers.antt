-- `arrays::alloc` meets its contract.
use Rattle.std.proofs.Common.{rules}
use Rattle.arrays.proofs.Allocs.{length-foldable, alloc-answers}
use Rattle.arrays.proofs.alloc.Goals as goal

pub fold_const-requires : goal.fold_const-requires
fold_const-requires c = length-foldable c.requires.0 c.number_at-q.ensures.0 c.requires.1 (search rules)

pub returns : goal.returns
returns c = alloc-answers c.requires.0 c.number_at-q.ensures.0 c.alloc_kind-kind.ensures c.fold_const.ensures (c.allocated.ensures _)

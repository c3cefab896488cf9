use Rattle.std.proofs.Common.{rules}
use Rattle.arrays.proofs.Sizes.{size-foldable, size_none, size-given}
use Rattle.names.specs.Table.{names_in}
use Rattle.checks.proofs.Kept.{kept-all}
use Rattle.arrays.proofs.literal_size.Goals as goal

pub returns-then-q-eq0 : goal.returns-then-q-eq0
returns-then-q-eq0 c = (size_none c.requires.0 c.number_at-q.ensures.0 (names_in c.args.sheet.now c.args.work.now c.args.consts) c.if-q-eq0.true, kept-all)

pub fold_const-requires : goal.fold_const-requires
fold_const-requires c = size-foldable c.requires.0 c.number_at-q.ensures.0 c.requires.1 (search rules) c.if-q-eq0.false

pub returns : goal.returns
returns c = (λ f e. size-given c.requires.0 c.number_at-q.ensures.0 c.if-q-eq0.false c.fold_const.ensures c.as_size.result (c.as_size.ensures _) f, c.fold_const.ensures.kept)

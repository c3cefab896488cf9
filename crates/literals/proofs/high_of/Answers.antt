use Rattle.literals.proofs.Selectors.{high-task, high-none, high-some}
use Rattle.names.specs.Table.{names_in}
use Rattle.checks.proofs.Kept.{kept-all}
use Rattle.literals.proofs.high_of.Goals as goal

pub returns-then-h-eq0 : goal.returns-then-h-eq0
returns-then-h-eq0 c = (high-none c.requires c.number_at-h.ensures.0 (names_in c.args.sheet.now c.args.work.now c.args.consts) c.ranges.low c.if-h-eq0.true, kept-all)

pub index_of-requires : goal.index_of-requires
index_of-requires c = high-task c.requires c.number_at-h.ensures.0 c.if-h-eq0.false

pub returns : goal.returns
returns c = (high-some c.requires c.number_at-h.ensures.0 (names_in c.args.sheet.now c.args.work.now c.args.consts) c.args.low c.index_of.result c.if-h-eq0.false c.index_of.ensures.0, c.index_of.ensures.1)

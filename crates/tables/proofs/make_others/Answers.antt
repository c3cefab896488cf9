-- `tables::make_others` meets its contract.
use Rattle.tables.proofs.Laws.{tables-held, tables-log, tables-kept}
use mathlib.Core.Path.{refl}
use borrow.Author.Rules.{rules}
use Rattle.tables.proofs.make_others.Goals as goal

pub returns : goal.returns
returns c = let l = c.requires.1 in let a = c.collect_globals-g.ensures.1 in let p = c.collect_globals-g.ensures.0 in let r = c.collect_adts-r.ensures in let d = c.collect_needs-d.ensures in (tables-held l a p r d.3 d.1 d.2 d.0, refl, tables-log l a p r d.3 d.1 d.2 d.0, tables-kept l a p r d.3 d.1 d.2 d.0)

use Rattle.std.proofs.Common.{rules}
-- `vars::plain_value` meets its contract.
use Rattle.std.proofs.lemmas.Result.{err_from_is_err_and}
use Rattle.vars.proofs.Values.{plain-none, plain-folded, plain-stopped}
use Rattle.vars.proofs.Lines.{value-foldable}
use Rattle.vars.proofs.plain_value.Goals as goal

pub returns-then-q-eq0 : goal.returns-then-q-eq0
returns-then-q-eq0 c = plain-none c.requires.0 c.number_at-q.ensures.0 _ c.if-q-eq0.true

pub fold_const-requires : goal.fold_const-requires
fold_const-requires c = value-foldable c.requires.0 c.number_at-q.ensures.0 c.if-q-eq0.false c.requires.1 (search rules)

pub returns-in_err-v : goal.returns-in_err-v
returns-in_err-v c =
    let p = err_from_is_err_and c.from_residual.result c.from_residual.ensures.1 in
    rw (p.1, p.2) (plain-stopped c.requires.0 c.number_at-q.ensures.0 c.if-q-eq0.false c.requires.1 c.fold_const.ensures c.in_err-v.field-0.0 c.in_err-v.was)

pub returns : goal.returns
returns c = plain-folded c.requires.0 c.number_at-q.ensures.0 c.if-q-eq0.false c.requires.1 c.fold_const.ensures c.in_ok-v.was

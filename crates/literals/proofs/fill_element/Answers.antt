-- `literals::fill_element` meets its contract.
use Rattle.std.proofs.Common.{rules}
use Rattle.std.proofs.lemmas.Result.{err_from_is_err_and}
use Rattle.literals.proofs.Elements.{value-foldable, value-stored, turn-none, turn-placed}
use Rattle.literals.proofs.fill_element.Goals as goal

pub fold_const-requires : goal.fold_const-requires
fold_const-requires c = value-foldable c.requires c.args.x c.number_at-q.ensures.0 (search rules)

pub returns-in_err-v : goal.returns-in_err-v
returns-in_err-v c =
    let p = err_from_is_err_and c.from_residual.result c.from_residual.ensures.1 in
    rw (p.1, p.2) (turn-none c.requires c.args.x c.number_at-q.ensures.0 c.fold_const.ensures c.in_err-v.field-0.0 c.in_err-v.was)

pub place_element-requires : goal.place_element-requires
place_element-requires c = value-stored c.requires c.args.x c.number_at-q.ensures.0 c.fold_const.ensures c.in_ok-v.was (search rules) c.put_value.ensures

pub returns : goal.returns
returns c = turn-placed c.requires c.args.x c.number_at-q.ensures.0 c.fold_const.ensures c.in_ok-v.was (search rules) c.put_value.ensures c.place_element.ensures

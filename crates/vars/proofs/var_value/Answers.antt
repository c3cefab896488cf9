-- `vars::var_value` meets its contract.
use Rattle.vars.proofs.Values.{value-named, value-plain}
use Rattle.vars.proofs.var_value.Goals as goal

pub returns-then-has_names : goal.returns-then-has_names
returns-then-has_names c = value-named c.args.sheet.now c.args.r _ c.has_names.ensures c.if-has_names.true c.first_value.ensures

pub returns : goal.returns
returns c = value-plain c.args.sheet.now c.args.r _ c.has_names.ensures c.if-has_names.false c.plain_value.ensures

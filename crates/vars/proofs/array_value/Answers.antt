-- `vars::array_value` meets its contract.
use Rattle.std.specs.Prelude.{Ok, Err}
use Rattle.std.proofs.lemmas.Result.{err_from_is_err_and}
use Rattle.vars.proofs.Values.{array-line, array-is}
use Rattle.vars.proofs.array_value.Goals as goal

pub const_array-requires : goal.const_array-requires
const_array-requires c = (array-line c.requires.0 c.element_type-declared.result c.element_type-declared.ensures.0 c.element_type-declared.ensures.1, c.requires.1)

pub returns-in_err-x : goal.returns-in_err-x
returns-in_err-x c =
    let p = err_from_is_err_and c.from_residual.result c.from_residual.ensures.1 in
    rw (p.1, p.2) (array-is c.requires.0 c.element_type-declared.result c.element_type-declared.ensures.0 c.element_type-declared.ensures.1 c.args.consts c.const_array.result c.const_array.ensures {y = Err c.in_err-x.field-0.0} c.in_err-x.was)

pub returns : goal.returns
returns c = array-is c.requires.0 c.element_type-declared.result c.element_type-declared.ensures.0 c.element_type-declared.ensures.1 c.args.consts c.const_array.result c.const_array.ensures {y = Ok c.in_ok-x.x} c.in_ok-x.was

-- `literals::as_int` meets its contract.
use Rattle.std.proofs.Common.{rules}
use Rattle.std.proofs.lemmas.Result.{err_from_is_err_and}
use Rattle.literals.proofs.Selectors.{int-value, no-int, no_value}
use Rattle.literals.proofs.as_int.Goals as goal

pub returns-in_err-z : goal.returns-in_err-z
returns-in_err-z c =
    let p = err_from_is_err_and c.from_residual.result c.from_residual.ensures.1 in
    rw (p.1, p.2) (λ t. no_value t c.in_err-z.field-0.0 c.in_err-z.was)

pub returns-in-Int : goal.returns-in-Int
returns-in-Int c = λ t. int-value t c.in_ok-z.was c.in-Int.is (search rules)

pub returns-in_default : goal.returns-in_default
returns-in_default c = λ t. no-int t c.in_ok-z.was c.in_default.not-Int

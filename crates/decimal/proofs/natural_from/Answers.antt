use Rattle.std.proofs.Common.{◌≤◌, ◌∙◌, sym, ap, length, arith}
use Rattle.decimal.specs.Number.{most, up_to}
use Rattle.decimal.proofs.Numbers.{nat-past}
use Rattle.decimal.proofs.natural_from.Goals as goal

pub returns-in_err-get : goal.returns-in_err-get
returns-in_err-get c =
    let h : length c.args.s.now ≤ c.args.from = omega (arith, c.in_err-get.ensures.lookup.0) in
    c.from_residual.ensures ∙ sym (ap (up_to most) (nat-past c.args.s.now c.args.from h))

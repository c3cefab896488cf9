use Rattle.std.proofs.Common.{◌∙◌, sym, ap}
use Rattle.decimal.specs.Number.{most, up_to}
use Rattle.decimal.proofs.Numbers.{nat-none, nat-leading, nat-digits}
use Rattle.decimal.proofs.natural.Goals as goal

pub returns-then-is_empty : goal.returns-then-is_empty
returns-then-is_empty c = sym (ap (up_to most) (nat-none c.args.s.now (sym c.if-is_empty.ensures)))

pub returns-then-s-gt1 : goal.returns-then-s-gt1
returns-then-s-gt1 c = sym (ap (up_to most) (nat-leading c.args.s.now c.if-s-eq48.true c.if-s-gt1.true))

pub returns : goal.returns
returns c = c.digits.ensures ∙ sym (ap (up_to most) (nat-digits c.args.s.now (sym c.if-is_empty.ensures) c.else-s-eq48.either))

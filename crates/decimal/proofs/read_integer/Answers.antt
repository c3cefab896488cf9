use Rattle.std.proofs.Common.{◌∙◌, ap, Some, sym}
use Rattle.decimal.proofs.Numbers.{integer-none, integer-plus, integer-minus}
use Rattle.decimal.proofs.read_integer.Goals as goal

pub returns-in_err-n : goal.returns-in_err-n
returns-in_err-n c = c.from_residual.ensures ∙ integer-none c.args.s.now c.in_err-n.ensures

pub returns-in-Plus : goal.returns-in-Plus
returns-in-Plus c = c.ok.ensures.value ∙ integer-plus c.args.s.now c.try_from.result (ap Some (sym c.in-Plus.is) ∙ c.in_ok-n.ensures) c.try_from.ensures

pub returns-in-Minus : goal.returns-in-Minus
returns-in-Minus c = integer-minus c.args.s.now c.checked_sub_unsigned.result (ap Some (sym c.in-Minus.is) ∙ c.in_ok-n.ensures) c.checked_sub_unsigned.ensures

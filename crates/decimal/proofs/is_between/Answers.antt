use Rattle.std.proofs.Common.{◌∙◌, sym, ap, Some, arith}
use Rattle.decimal.proofs.Numbers.{plus-within, minus-within, none_within}
use Rattle.decimal.proofs.is_between.Goals as goal

pub returns-in-Some-Plus : goal.returns-in-Some-Plus
returns-in-Some-Plus c =
    let a = c.args in
    plus-within a.s.now a.lo a.hi (sym (c.in-Some-Plus.is ∙ ap Some c.in-Some-Plus.field-0-is) ∙ c.read_signed.ensures) c.from.ensures (omega arith)

pub returns-in-Some-Minus : goal.returns-in-Some-Minus
returns-in-Some-Minus c =
    let a = c.args in
    minus-within a.s.now a.lo a.hi (sym (c.in-Some-Minus.is ∙ ap Some c.in-Some-Minus.field-0-is) ∙ c.read_signed.ensures) c.from-in-Some-Minus.ensures (omega arith)

pub returns-in-None : goal.returns-in-None
returns-in-None c =
    let a = c.args in
    none_within a.s.now a.lo a.hi c.in-None.ensures

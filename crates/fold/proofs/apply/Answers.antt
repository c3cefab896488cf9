-- `fold::apply` meets its contract.
use Rattle.std.proofs.Common.{sym, ◌∙◌, arith}
use Rattle.fold.proofs.Steps.{applies-unary, cast-line, applies-cast, applies-len}
use Rattle.fold.proofs.apply.Goals as goal

pub returns-in-13 : goal.returns-in-13
returns-in-13 c = applies-unary c.requires (sym c.form_at.ensures.0 ∙ c.in-13.is) c.of_number-op.result c.number_at.ensures.0 c.of_number-op.ensures c.fold_unary.ensures

pub overflow_sub-number_at : goal.overflow_sub-number_at
overflow_sub-number_at c = let w = cast-line c.requires (sym c.form_at.ensures.0 ∙ c.in-15.is) in omega (arith, c.number_at-in-15.ensures.0, w.exact, w.first)

pub form_at-code-requires : goal.form_at-code-requires
form_at-code-requires c = let w = cast-line c.requires (sym c.form_at.ensures.0 ∙ c.in-15.is) in omega (arith, c.number_at-in-15.ensures.0, w.exact, w.first, w.last)

pub returns-in-15 : goal.returns-in-15
returns-in-15 c = applies-cast c.requires (sym c.form_at.ensures.0 ∙ c.in-15.is) c.number_at-in-15.ensures.0 c.form_at-code.ensures.0 c.fold_cast.ensures

pub returns-in_default : goal.returns-in_default
returns-in_default c = applies-len c.requires (omega arith) (omega arith) c.fold_len.ensures

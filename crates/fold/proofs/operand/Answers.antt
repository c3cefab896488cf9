-- `fold::operand` meets its contract.
use Rattle.fold.proofs.Steps.{operand-first, operand-second}
use mathlib.Core.Path.{sym, ◌∙◌}
use Rattle.fold.proofs.operand.Goals as goal

pub returns-then-form_at-eq-LEN : goal.returns-then-form_at-eq-LEN
returns-then-form_at-eq-LEN c = operand-first c.requires (sym c.form_at.ensures.0 ∙ c.if-form_at-eq-LEN.true) c.number_at.ensures.0

pub returns-else-form_at-eq-LEN : goal.returns-else-form_at-eq-LEN
returns-else-form_at-eq-LEN c = operand-second c.requires (λ e. c.if-form_at-eq-LEN.false (c.form_at.ensures.0 ∙ e)) c.number_at-else-form_at-eq-LEN.ensures.0

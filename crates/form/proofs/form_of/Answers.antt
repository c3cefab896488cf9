-- `form::form_of` meets its contract.
use Rattle.std.proofs.Common.{◌∙◌, sym}
use Rattle.form.proofs.Laws.{form-long, form-none, form-unfit, form-good, form-late}
use Rattle.form.proofs.form_of.Goals as goal

pub returns-then-l-gt-LONGEST_LINE-clause-value : goal.returns-then-l-gt-LONGEST_LINE-clause-value
returns-then-l-gt-LONGEST_LINE-clause-value c = form-long c.args.k c.args.l.now c.if-l-gt-LONGEST_LINE.true

pub returns-in_err-f-clause-value : goal.returns-in_err-f-clause-value
returns-in_err-f-clause-value c = c.from_residual.ensures ∙ form-none c.args.k c.args.l.now c.if-l-gt-LONGEST_LINE.false c.in_err-f.ensures.value

pub returns-then-not-fits_form-clause-value : goal.returns-then-not-fits_form-clause-value
returns-then-not-fits_form-clause-value c = form-unfit c.args.k c.args.l.now c.in_ok-f.f c.if-l-gt-LONGEST_LINE.false c.in_ok-f.ensures.value (sym c.if-not-fits_form.ensures)

pub returns-then-k-ne1-clause-value : goal.returns-then-k-ne1-clause-value
returns-then-k-ne1-clause-value c = form-late c.args.k c.args.l.now c.in_ok-f.f c.if-l-gt-LONGEST_LINE.false c.in_ok-f.ensures.value (sym c.if-not-fits_form.ensures) (sym c.kind.ensures ∙ c.if-kind-eq-IMPL.true) c.if-k-ne1.true

pub returns-clause-value : goal.returns-clause-value
returns-clause-value c = form-good c.args.k c.args.l.now c.in_ok-f.f c.if-l-gt-LONGEST_LINE.false c.in_ok-f.ensures.value (sym c.if-not-fits_form.ensures) (rw c.kind.ensures at c.else-kind-eq-IMPL.either)

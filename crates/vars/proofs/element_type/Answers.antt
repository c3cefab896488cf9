-- `vars::element_type` meets its contract.
use Rattle.vars.proofs.Lines.{element-none, element-line, element-some}
use Rattle.vars.proofs.element_type.Goals as goal

pub returns-then-form_at-ne-ARRAY : goal.returns-then-form_at-ne-ARRAY
returns-then-form_at-ne-ARRAY c = (element-none c.type_of-ty.ensures.0 c.type_of-ty.ensures.1 c.form_at.ensures.0 c.if-form_at-ne-ARRAY.true, tt)

pub returns : goal.returns
returns c = (element-some c.type_of-ty.ensures.0 c.type_of-ty.ensures.1 c.form_at.ensures.0 c.if-form_at-ne-ARRAY.false c.number_at.ensures.0, element-line c.type_of-ty.ensures.0 c.type_of-ty.ensures.1 c.form_at.ensures.0 c.if-form_at-ne-ARRAY.false c.number_at.ensures.0)

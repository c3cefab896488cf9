use Rattle.arrays.proofs.Elements.{cast-not, cast-line, cast_is}
use Rattle.std.proofs.Common.{◌∙◌}
use Rattle.arrays.proofs.is_byte_cast.Goals as goal

pub returns-then-form_at-ne-CAST : goal.returns-then-form_at-ne-CAST
returns-then-form_at-ne-CAST c = cast-not c.requires c.form_at.ensures.0 c.if-form_at-ne-CAST.true

pub elem_kind-requires : goal.elem_kind-requires
elem_kind-requires c = cast-line c.requires c.form_at.ensures.0 c.if-form_at-ne-CAST.false c.number_at.ensures.0

pub returns : goal.returns
returns c = c.eq.ensures ∙ cast_is c.requires c.form_at.ensures.0 c.if-form_at-ne-CAST.false c.number_at.ensures.0 c.elem_kind.result c.elem_kind.ensures

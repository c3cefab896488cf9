use Rattle.arrays.proofs.Wholes.{own-type-line, kind-own, kind-bytes, kind-values}
use Rattle.placements.specs.Placements.{values_in}
use mathlib.Core.Path.{sym, ◌∙◌}
use Rattle.arrays.proofs.literal_kind.Goals as goal

pub elem_kind-requires-then-own-ne0 : goal.elem_kind-requires-then-own-ne0
elem_kind-requires-then-own-ne0 c = own-type-line c.requires (values_in c.args.work.now 0 c.args.count) c.in_default.is c.number_at-own.ensures.0 c.if-own-ne0.true

pub returns-then-own-ne0 : goal.returns-then-own-ne0
returns-then-own-ne0 c = kind-own c.requires (values_in c.args.work.now 0 c.args.count) c.in_default.is c.number_at-own.ensures.0 c.if-own-ne0.true c.elem_kind-then-own-ne0.ensures

pub returns-then-is_byte_literal : goal.returns-then-is_byte_literal
returns-then-is_byte_literal c = kind-bytes c.requires (values_in c.args.work.now 0 c.args.count) c.in_default.is c.number_at-own.ensures.0 c.if-own-ne0.false (sym c.if-is_byte_literal.true ∙ c.is_byte_literal.ensures)

pub returns : goal.returns
returns c = kind-values c.requires (values_in c.args.work.now 0 c.args.count) c.in_default.is c.number_at-own.ensures.0 c.if-own-ne0.false (sym c.if-is_byte_literal.false ∙ c.is_byte_literal.ensures) c.kind_of_values.ensures

-- `marks::mark_field` meets its contract.
use native.Mathlib.Omega.{arith}
use Rattle.sizes.proofs.Places.{type-line, names-few, names-small}
use Rattle.marks.proofs.Marking.{line-untyped, line-typed}
use Rattle.marks.proofs.mark_field.Goals as goal

pub returns-then-t-eq0 : goal.returns-then-t-eq0
returns-then-t-eq0 c = (line-untyped c.args.sheet.now c.args.work.now c.args.r c.requires.0 c.number_at-t.result c.number_at-t.ensures.0 c.args.size c.args.off c.if-t-eq0.true, omega arith)

pub type_size_align-x-requires : goal.type_size_align-x-requires
type_size_align-x-requires c = type-line c.args.sheet.now c.args.r c.requires.0 c.number_at-t.result c.number_at-t.ensures.0 c.if-t-eq0.false

pub is_pointer-pointer-requires : goal.is_pointer-pointer-requires
is_pointer-pointer-requires c = type-line c.args.sheet.now c.args.r c.requires.0 c.number_at-t.result c.number_at-t.ensures.0 c.if-t-eq0.false

pub mark_names-requires : goal.mark_names-requires
mark_names-requires c = (c.requires.1, c.type_size_align-x.ensures.small, names-few c.args.sheet.now c.args.r c.requires.0 c.number_at-t.result c.number_at-t.ensures.0 c.if-t-eq0.false c.number_at-names.result c.number_at-names.ensures.0, omega (arith, c.align_up-at.ensures.1, c.type_size_align-x.ensures.low, c.requires.2))

pub returns : goal.returns
returns c = (line-typed c.args.sheet.now c.args.work.now c.args.r c.requires.0 c.number_at-t.result c.number_at-t.ensures.0 c.args.size c.args.off c.if-t-eq0.false c.number_at-names.result c.number_at-names.ensures.0 c.type_size_align-x.result.size c.type_size_align-x.result.align c.align_up-at.result c.mark_names.result _ c.type_size_align-x.ensures c.align_up-at.ensures.0 c.mark_names.ensures.0 c.is_pointer-pointer.ensures c.mark_names.ensures.1, omega (arith, c.align_up-at.ensures.1, c.type_size_align-x.ensures.low, c.mark_names.ensures.0, names-small (names-few c.args.sheet.now c.args.r c.requires.0 c.number_at-t.result c.number_at-t.ensures.0 c.if-t-eq0.false c.number_at-names.result c.number_at-names.ensures.0) c.type_size_align-x.ensures.small))

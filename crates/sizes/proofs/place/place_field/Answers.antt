-- `sizes::place::place_field` meets its contract.
use Rattle.sizes.proofs.Places.{placed-untyped, type-line, names-few, placed-typed}
use native.Mathlib.Omega.{arith}
use Rattle.sizes.proofs.place.place_field.Goals as goal

pub returns-then-t-eq0 : goal.returns-then-t-eq0
returns-then-t-eq0 c = (placed-untyped c.args.sheet.now c.args.r c.requires.0 c.number_at-t.result c.number_at-t.ensures.0 c.if-t-eq0.true c.args.p, omega arith)

pub type_size_align-x-requires : goal.type_size_align-x-requires
type_size_align-x-requires c = type-line c.args.sheet.now c.args.r c.requires.0 c.number_at-t.result c.number_at-t.ensures.0 c.if-t-eq0.false

pub is_pointer-pointer-requires : goal.is_pointer-pointer-requires
is_pointer-pointer-requires c = type-line c.args.sheet.now c.args.r c.requires.0 c.number_at-t.result c.number_at-t.ensures.0 c.if-t-eq0.false

pub place_line-requires : goal.place_line-requires
place_line-requires c = (c.requires.1, c.type_size_align-x.ensures.small, c.type_size_align-x.ensures.low, names-few c.args.sheet.now c.args.r c.requires.0 c.number_at-t.result c.number_at-t.ensures.0 c.if-t-eq0.false c.number_at.result c.number_at.ensures.0)

pub returns : goal.returns
returns c = (placed-typed c.args.sheet.now c.args.r c.requires.0 c.number_at-t.result c.number_at-t.ensures.0 c.if-t-eq0.false c.number_at.result c.number_at.ensures.0 c.args.p c.place_line.result (λ ns e. c.place_line.ensures.0 _ ns c.type_size_align-x.ensures e), c.place_line.ensures.1)

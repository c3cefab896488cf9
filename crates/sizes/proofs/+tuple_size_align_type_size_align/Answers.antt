use Rattle.std.proofs.Common.{true, false, sym, ◌∙◌, refl, arith}
use Rattle.sizes.proofs.Types.{measures-plain, measuring-start, measuring-end, measuring-next, field-line, field-before}
use Rattle.sizes.proofs.+tuple_size_align_type_size_align.Goals as goal

pub tuple_size_align-loop-j-init : goal.tuple_size_align-loop-j-init
tuple_size_align-loop-j-init t c = measuring-start c.requires c.number_at-count.ensures.0

pub tuple_size_align-type_size_align-requires : goal.tuple_size_align-type_size_align-requires
tuple_size_align-type_size_align-requires t c =
    let before = field-before c.requires c.number_at-count.ensures.0 c.loop-j.invariant c.loop-j-test.true c.number_at-field.ensures.0 in
    (omega (arith, c.decreases, before), field-line c.requires c.number_at-count.ensures.0 c.loop-j.invariant c.loop-j-test.true c.number_at-field.ensures.0)

pub tuple_size_align-loop-j-preserved : goal.tuple_size_align-loop-j-preserved
tuple_size_align-loop-j-preserved t c =
    measuring-next c.requires c.number_at-count.ensures.0 c.loop-j.invariant c.loop-j-test.true c.number_at-field.ensures.0 c.type_size_align.ensures
    c.behind-t.ensures.0 c.behind-t.ensures.1

pub tuple_size_align-returns : goal.tuple_size_align-returns
tuple_size_align-returns t c = measuring-end c.requires c.number_at-count.ensures.0 c.loop-j.invariant c.loop-j-test.false c.rounded_size.ensures refl

pub type_size_align-returns-then-is_long : goal.type_size_align-returns-then-is_long
type_size_align-returns-then-is_long t c = measures-plain c.requires c.form_at-f.ensures.0 c.if-f-eq-TUPLE.false true (sym c.if-is_long.true ∙ c.is_long.ensures)

pub type_size_align-returns : goal.type_size_align-returns
type_size_align-returns t c = measures-plain c.requires c.form_at-f.ensures.0 c.if-f-eq-TUPLE.false false (sym c.if-is_long.false ∙ c.is_long.ensures)

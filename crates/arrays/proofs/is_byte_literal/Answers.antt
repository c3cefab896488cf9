use Rattle.arrays.proofs.Elements.{casting-end, element-at, value_line, casting-stop, casting-next}
use Rattle.literals.proofs.Lines.{line-in}
use mathlib.Core.Path.{sym, ◌∙◌}
use Rattle.arrays.proofs.is_byte_literal.Goals as goal

pub overflow_sub-q : goal.overflow_sub-q
overflow_sub-q c = (element-at c.requires c.number_at-count.ensures.0 c.loop-j.invariant c.loop-j-test.true c.number_at-q.ensures.0).first

pub number_at-requires : goal.number_at-requires
number_at-requires c = line-in (element-at c.requires c.number_at-count.ensures.0 c.loop-j.invariant c.loop-j-test.true c.number_at-q.ensures.0)

pub is_byte_cast-requires : goal.is_byte_cast-requires
is_byte_cast-requires c = value_line c.requires c.number_at-count.ensures.0 c.loop-j.invariant c.loop-j-test.true c.number_at-q.ensures.0 c.number_at.ensures.0

pub returns-then-not-is_byte_cast : goal.returns-then-not-is_byte_cast
returns-then-not-is_byte_cast c = casting-stop c.requires c.number_at-count.ensures.0 c.loop-j.invariant c.loop-j-test.true c.number_at-q.ensures.0 c.number_at.ensures.0 (sym (c.if-not-is_byte_cast.true) ∙ c.is_byte_cast.ensures)

pub loop-j-preserved : goal.loop-j-preserved
loop-j-preserved c = casting-next c.requires c.number_at-count.ensures.0 c.loop-j.invariant c.loop-j-test.true c.number_at-q.ensures.0 c.number_at.ensures.0 (sym (c.if-not-is_byte_cast.false) ∙ c.is_byte_cast.ensures)

pub returns : goal.returns
returns c = casting-end c.requires c.number_at-count.ensures.0 c.loop-j.invariant c.loop-j-test.false

use Rattle.std.proofs.Common.{ℕ}
use Rattle.codes.specs.Kinds.{element_kind}
use Rattle.write.proofs.Writes.{writes_none}
use Rattle.rows.specs.Rows.{commaed}
use Rattle.elements.specs.Elements.{element_texts}
use Rattle.placements.specs.Placements.{values_in}
use Rattle.items.proofs.Arrays.{elements-next, up_to}
use Rattle.items.proofs.put_elements.Goals as goal

pub loop-i-init : goal.loop-i-init
unfolding values_in
loop-i-init c = writes_none _ c.args.w.now.room

pub loop-i-preserved : goal.loop-i-preserved
loop-i-preserved c = elements-next c.args.work.now c.loop-i.i (element_kind c.args.kind) c.element.ensures c.loop-i.invariant c.put_element.ensures

pub returns : goal.returns
returns c = up_to (λ (n : ℕ). commaed (element_texts (element_kind c.args.kind) (values_in c.args.work.now 0 n))) c.loop-i.auto.i-end c.loop-i-test.false c.loop-i.invariant

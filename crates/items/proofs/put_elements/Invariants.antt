use Rattle.codes.specs.Kinds.{element_kind}
use Rattle.elements.specs.Elements.{element_texts}
use Rattle.placements.specs.Placements.{values_in}
use Rattle.rows.specs.Rows.{commaed}
use Rattle.write.specs.Writes.{Writes}
use Rattle.items.proofs.put_elements.Given as goal

abbrev pub invariant-loop-i : goal.invariant-loop-i
invariant-loop-i l = Writes l.initial.w (commaed (element_texts (element_kind l.kind) (values_in l.work 0 l.i))) l.w

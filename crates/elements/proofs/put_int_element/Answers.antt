use Rattle.semantics.specs.Fold.{to_real}
use Rattle.semantics.specs.Tree.ConstVal.{v_int}
use Rattle.ints.proofs.Widths.{from1}
use Rattle.elements.proofs.Elements.{as_real}
use Rattle.elements.proofs.put_int_element.Goals as goal

pub returns-in-Real : goal.returns-in-Real
returns-in-Real c = as_real (v_int c.args.n) c.in-Real.is c.bits.ensures (from1 to_real c.ranges.n c.real_of_int.ensures) c.comma_bits.ensures

use Rattle.std.proofs.Common.{refl}
use Rattle.semantics.specs.Tree.ConstVal.{v_real}
use Rattle.elements.proofs.Elements.{as_real}
use Rattle.elements.proofs.put_real_element.Goals as goal

pub returns-in-Real : goal.returns-in-Real
returns-in-Real c = as_real (v_real c.args.x) c.in-Real.is c.bits.ensures refl c.comma_bits.ensures

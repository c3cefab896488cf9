use Rattle.std.proofs.Common.{refl}
use lib.Ieee.{to_bits}
use Rattle.semantics.specs.Tree.ConstVal.{v_str}
use Rattle.elements.proofs.Elements.{as_real, as_zero}
use Rattle.elements.proofs.put_zero_element.Goals as goal

pub returns-in-Byte : goal.returns-in-Byte
returns-in-Byte c = as_zero c.in-Byte.is c.comma_nat.ensures

pub returns-in-Real : goal.returns-in-Real
unfolding to_bits
returns-in-Real c = λ s. as_real (v_str s) c.in-Real.is refl refl c.comma_bits.ensures

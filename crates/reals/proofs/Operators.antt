-- The machine's operators are those of IEEE 754.
use Rattle.std.proofs.Common.{◌≡◌, Float, refl}
use lib.Ieee.{binary64, add, sub, mul, div}
use Rattle.semantics.specs.Fold.{real_arith}
use Rattle.semantics.specs.Tree.{Arith}

pub sum_is : (a b : Float) → add binary64 a b ≡ real_arith Arith.add a b
unfolding add sub mul div
sum_is a b = refl

pub difference_is : (a b : Float) → sub binary64 a b ≡ real_arith Arith.sub a b
unfolding add sub mul div
difference_is a b = refl

pub product_is : (a b : Float) → mul binary64 a b ≡ real_arith Arith.mul a b
unfolding add sub mul div
product_is a b = refl

pub quotient_is : (a b : Float) → div binary64 a b ≡ real_arith Arith.div a b
unfolding add sub mul div
quotient_is a b = refl

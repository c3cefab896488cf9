-- What a quotient is to a fold: a value, or a failure.
use Rattle.std.specs.Prelude.{ℤ, Option, None, Some}
use Rattle.semantics.specs.Tree.{ConstVal}
use Rattle.semantics.specs.Fold.{Result, int_ok}
use Rattle.semantics.specs.Fold.Result.{failed}

abbrev pub folded : Option ℤ → Result ConstVal
folded None = failed
folded (Some n) = int_ok n

-- The text of a row's fields.
use Rattle.std.specs.Prelude.{List, [], ◌∷◌, ◌++◌}
use Rattle.semantics.specs.Text.{Bytes}

-- fields, each behind its comma
abbrev pub commaed : List Bytes → Bytes
commaed [] = []
commaed (f ∷ fs) = (44 ∷ f) ++ commaed fs

use mathlib.Core.List.{◌∷◌, []}
use Rattle.semantics.specs.Types.{opaque_shape}
use Rattle.type_rows.proofs.Wrotes.{types-then}
use Rattle.type_rows.proofs.opaque_rows.Goals as goal

pub returns : goal.returns
returns c = types-then (opaque_shape ∷ []) (opaque_shape ∷ []) c.put_opaque-id.ensures c.put_opaque.ensures

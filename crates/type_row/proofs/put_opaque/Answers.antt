use Rattle.type_row.specs.Row.{word_offsets}
use Rattle.semantics.specs.Types.{opaque_shape}
use Rattle.type_row.proofs.Maps.{opaque-words, opaque-size, shape_is, types-as}
use Rattle.type_row.proofs.put_opaque.Goals as goal

pub returns : goal.returns
returns c = types-as (shape_is opaque_shape 48 (word_offsets 12) opaque-size opaque-words) c.put_words.ensures

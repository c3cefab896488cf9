use Rattle.codes.specs.Kinds.{element_kind}
use Rattle.semantics.specs.Types.{elem_shape}
use Rattle.type_row.specs.Row.{word_offsets}
use Rattle.type_row.proofs.Maps.{shape_is, types-as}
use Rattle.type_row.proofs.put_elem.Goals as goal

pub returns : goal.returns
returns c = types-as (shape_is (elem_shape (element_kind c.args.kind)) c.elem_size.result (word_offsets c.elem_pointers.result) c.elem_size.ensures.0 c.elem_pointers.ensures.0) c.put_words.ensures

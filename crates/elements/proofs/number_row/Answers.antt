use Rattle.std.proofs.Common.{◌∷◌, []}
use Rattle.codes.specs.Kinds.{element_kind}
use Rattle.elements.proofs.Rows.{numbers-row, one_field}
use Rattle.values.specs.Values.{value_in}
use Rattle.elements.proofs.number_row.Goals as goal

pub returns : goal.returns
returns c = λ t. numbers-row (element_kind c.args.kind) c.args.off (value_in t c.args.v ∷ []) c.put_head.ensures (one_field (c.put_element.ensures t)) c.lf.ensures

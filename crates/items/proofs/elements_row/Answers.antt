use Rattle.std.proofs.Common.{ap, sym}
use Rattle.codes.specs.Kinds.{element_kind}
use Rattle.write.proofs.Writes.{writes_as}
use Rattle.elements.specs.Elements.{head_text}
use Rattle.elements.proofs.Rows.{numbers-row}
use Rattle.placements.specs.Placements.{values_in}
use Rattle.items.proofs.Arrays.{values_length}
use Rattle.items.proofs.elements_row.Goals as goal

pub returns : goal.returns
returns c =
    let k = element_kind c.args.kind in
    numbers-row k 0 (values_in c.args.work.now 0 c.args.count) (writes_as (ap (head_text k 0) (sym (values_length c.args.work.now c.args.count 0))) c.put_head.ensures) c.put_elements.ensures c.lf.ensures

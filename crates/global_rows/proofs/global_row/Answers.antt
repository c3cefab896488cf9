-- `global_rows::global_row` meets its contract.
use Rattle.global_table.specs.Table.{global_at}
use Rattle.global_rows.proofs.Rows.{row_is, entry-offset, entry-type}
use Rattle.semantics.specs.Layout.{is_ptr}
use Rattle.semantics.specs.Global.{global_size}
use Rattle.write.proofs.Writes.{writes_then, writes_as}
use mathlib.Core.Path.{ap, ◌∙◌}
use Rattle.global_rows.proofs.global_row.Goals as goal

pub type_of-ty-requires : goal.type_of-ty-requires
type_of-ty-requires c = rw c.line_of.ensures c.requires.line

pub returns : goal.returns
returns c =
    let a = c.args in
    let t = entry-type a.sheet.now a.work.now a.i c.line_of.ensures c.type_of-ty.ensures.1 in
    writes_as (row_is (global_at a.sheet.now a.work.now a.i) c.name_of.ensures (c.offset_of.ensures.0 ∙ entry-offset a.sheet.now a.work.now a.i) (c.global_size.ensures.0 ∙ ap global_size t) (c.is_pointer.ensures ∙ ap is_ptr t))
    (writes_then c.put_part.ensures (writes_then c.comma_part.ensures (writes_then c.comma_nat.ensures (writes_then c.comma_nat-2.ensures (writes_then c.comma_flag.ensures c.lf.ensures)))))

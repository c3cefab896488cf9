use Rattle.records.proofs.Keys.{entry-variant, entry-tag, tag_read}
use mathlib.Core.Path.{◌∙◌}
use Rattle.records.proofs.key.tag_of.Goals as goal

pub case_line-v-requires : goal.case_line-v-requires
case_line-v-requires c = rw (c.line_of.ensures, c.case_of.ensures.0) (entry-variant c.args.sheet.now c.args.work.now c.args.i c.requires.0 c.requires.1)

pub tag_at-requires : goal.tag_at-requires
tag_at-requires c =
    let x = rw (c.line_of.ensures, c.case_of.ensures.0) at c.case_line-v.ensures in
    (x.line, rw c.position_of.ensures (entry-tag c.args.sheet.now c.args.work.now c.args.i c.requires.0 c.requires.1 c.case_line-v.result x))

pub returns : goal.returns
returns c =
    let x = rw (c.line_of.ensures, c.case_of.ensures.0) at c.case_line-v.ensures in
    c.tag_at.ensures ∙ rw c.position_of.ensures (tag_read c.args.sheet.now c.args.work.now c.args.i c.requires.0 c.requires.1 c.case_line-v.result x)

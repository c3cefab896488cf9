use Rattle.record_rows.proofs.Entries.{variant-line, fields-adt, fields-plain, fields-variant}
use Rattle.write.proofs.Writes.{writes_as, writes_then}
use mathlib.Core.Path.{sym, ◌∙◌}
use Rattle.record_rows.proofs.put_fields.Goals as goal

pub returns-then-form_at-eq-ADT : goal.returns-then-form_at-eq-ADT
returns-then-form_at-eq-ADT c = writes_as (fields-adt c.args.sheet.now c.args.work.now c.args.i c.requires c.line_of-r.ensures (sym c.form_at.ensures.0 ∙ c.if-form_at-eq-ADT.true)) c.put_common.ensures.0.wrote

pub returns-then-c-eq0 : goal.returns-then-c-eq0
returns-then-c-eq0 c = writes_as (fields-plain c.args.sheet.now c.args.work.now c.args.i c.requires c.line_of-r.ensures (λ e. c.if-form_at-eq-ADT.false (c.form_at.ensures.0 ∙ e)) c.case_of-c.ensures.0 c.if-c-eq0.true) c.put_common-end.ensures.0.wrote

pub case_line-v-requires : goal.case_line-v-requires
case_line-v-requires c = variant-line c.args.sheet.now c.args.work.now c.args.i c.requires c.line_of-r.ensures c.case_of-c.ensures.0 c.if-c-eq0.false

pub returns : goal.returns
returns c = writes_as (fields-variant c.args.sheet.now c.args.work.now c.args.i c.requires c.line_of-r.ensures c.case_of-c.ensures.0 c.if-c-eq0.false c.case_line-v.result c.case_line-v.ensures c.put_common-end.ensures.0.end) (writes_then c.put_common-end.ensures.0.wrote c.put_case.ensures.wrote)

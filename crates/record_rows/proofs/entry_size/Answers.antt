use Rattle.record_rows.proofs.Entries.{shape-plain, shape-variant, variant-line, sized}
use mathlib.Core.Path.{◌∙◌}
use Rattle.record_rows.proofs.entry_size.Goals as goal

pub returns-then-case-eq0 : goal.returns-then-case-eq0
returns-then-case-eq0 c = sized c.args.sheet.now c.args.work.now c.args.i c.requires (c.record_size.ensures ∙ rw (shape-plain c.args.sheet.now c.args.work.now c.args.i (c.requires.log.entries _ c.requires.low) c.line_of-r.ensures c.case_of-case.ensures.0 c.if-case-eq0.true))

pub variant_size-requires : goal.variant_size-requires
variant_size-requires c = variant-line c.args.sheet.now c.args.work.now c.args.i (c.requires.log.entries _ c.requires.low) c.line_of-r.ensures c.case_of-case.ensures.0 c.if-case-eq0.false

pub returns : goal.returns
returns c = sized c.args.sheet.now c.args.work.now c.args.i c.requires (c.variant_size.ensures ∙ rw (shape-variant c.args.sheet.now c.args.work.now c.args.i (c.requires.log.entries _ c.requires.low) c.line_of-r.ensures c.case_of-case.ensures.0 c.if-case-eq0.false))

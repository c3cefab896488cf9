use Rattle.record_rows.proofs.Entries.{shape-plain, shape-variant, variant-line}
use Rattle.record_rows.proofs.map_entry.Goals as goal

pub returns-then-c-eq0 : goal.returns-then-c-eq0
returns-then-c-eq0 c = rw (shape-plain c.args.sheet.now c.args.work.now c.args.i c.requires.0 c.line_of-r.ensures c.case_of-c.ensures.0 c.if-c-eq0.true) c.map_record.ensures

pub map_variant-requires : goal.map_variant-requires
map_variant-requires c = (variant-line c.args.sheet.now c.args.work.now c.args.i c.requires.0 c.line_of-r.ensures c.case_of-c.ensures.0 c.if-c-eq0.false, c.requires.1)

pub returns : goal.returns
returns c = rw (shape-variant c.args.sheet.now c.args.work.now c.args.i c.requires.0 c.line_of-r.ensures c.case_of-c.ensures.0 c.if-c-eq0.false) c.map_variant.ensures

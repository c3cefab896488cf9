use Rattle.shapes.proofs.Cases.{adt-line, pick-line, pick-record}
use Rattle.checks.proofs.Kept.{kept_then}
use mathlib.Core.Path.{◌∙◌, sym}
use Rattle.shape_rows.proofs.print_line.Goals as goal

pub print_record-requires : goal.print_record-requires
print_record-requires g c = adt-line c.args.sheet.now c.args.r c.requires.0 c.requires.1 c.requires.2 (sym c.form_at.ensures.0 ∙ c.in-26.is)

pub print_record-requires-in-27 : goal.print_record-requires-in-27
print_record-requires-in-27 g c = pick-record c.args.sheet.now c.args.r (pick-line c.args.sheet.now c.args.r c.requires.0 c.requires.1 c.requires.2 (sym c.form_at.ensures.0 ∙ c.in-27.is))

pub print_variants-requires : goal.print_variants-requires
print_variants-requires g c = pick-line c.args.sheet.now c.args.r c.requires.0 c.requires.1 c.requires.2 (sym c.form_at.ensures.0 ∙ c.in-27.is)

pub returns-in_ok-print_record-in-27 : goal.returns-in_ok-print_record-in-27
returns-in_ok-print_record-in-27 g c = kept_then c.in_ok-print_record-in-27.ensures c.print_variants.ensures

use Rattle.shapes.proofs.Cases.{cases-few, case-line}
use native.Mathlib.Omega.{arith}
use Rattle.shapes.proofs.case_line.Goals as goal

pub overflow_add-fields-2 : goal.overflow_add-fields-2
overflow_add-fields-2 c = record { fits = omega (arith, c.requires.case, cases-few c.args.sheet.now c.args.r c.requires.line, c.number_at-fields.ensures.1) }

pub returns : goal.returns
returns c = case-line c.args.sheet.now c.args.r c.requires.line c.number_at-fields.result c.number_at-fields.ensures.0 c.args.c c.number_at.result c.requires.case c.number_at.ensures.0

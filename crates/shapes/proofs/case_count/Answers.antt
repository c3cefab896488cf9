use Rattle.shapes.proofs.Cases.{case_count}
use Rattle.shapes.proofs.case_count.Goals as goal

pub returns : goal.returns
returns c = case_count c.args.sheet.now c.args.r c.requires c.number_at-fields.result c.number_at-fields.ensures.0 c.number_at.result c.number_at.ensures.0

use Rattle.shapes.proofs.Sizes.{variant-size}
use Rattle.shapes.proofs.variant_size.Goals as goal

pub returns : goal.returns
returns c = variant-size c.args.sheet.now c.args.r c.args.c c.case_line.result c.case_size.result c.behind_common-p.result c.behind_common-p.ensures c.case_line.ensures c.case_size.ensures

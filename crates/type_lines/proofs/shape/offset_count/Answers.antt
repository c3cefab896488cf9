use native.Mathlib.Omega.{arith}
use mathlib.Core.Path.{◌∙◌}
use Rattle.type_lines.proofs.Shapes.{count-is, count_low}
use Rattle.type_lines.proofs.shape.offset_count.Goals as goal

pub returns : goal.returns
returns c = let e = c.number_at.ensures.0 ∙ count-is c.args.sheet.now c.args.i c.requires in (e, omega (arith, e, count_low c.args.sheet.now c.args.i c.requires))

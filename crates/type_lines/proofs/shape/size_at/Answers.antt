use native.Mathlib.Omega.{arith}
use mathlib.Core.Path.{◌∙◌}
use Rattle.type_lines.proofs.Shapes.{size_is, size_low}
use Rattle.type_lines.proofs.shape.size_at.Goals as goal

pub returns : goal.returns
returns c = let e = c.number_at.ensures.0 ∙ size_is c.args.sheet.now c.args.i c.requires in (e, omega (arith, e, size_low c.args.sheet.now c.args.i c.requires))

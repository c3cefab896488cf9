use Rattle.std.proofs.Common.{◌∙◌, sym, ap, Some, arith}
use Rattle.type_lines.proofs.Shapes.{read-plus, read-minus, read_none}
use Rattle.type_lines.proofs.shape.read_offset.Goals as goal

pub overflow_add-result : goal.overflow_add-result
overflow_add-result c = record { fits = omega (arith, (read-plus c.args.f.now c.requires _ (ap Some (sym c.in-Some-Plus.field-0-is) ∙ c.in-Some-Plus.ensures)).0) }

pub overflow_sub-result : goal.overflow_sub-result
overflow_sub-result c = (read-minus c.args.f.now c.requires _ (ap Some (sym c.in-Some-Minus.field-0-is) ∙ c.in-Some-Minus.ensures)).0

pub returns-in-Some-Plus : goal.returns-in-Some-Plus
returns-in-Some-Plus c = let w = read-plus c.args.f.now c.requires _ (ap Some (sym c.in-Some-Plus.field-0-is) ∙ c.in-Some-Plus.ensures) in (w.1, omega (arith, w.0))

pub returns-in-Some-Minus : goal.returns-in-Some-Minus
returns-in-Some-Minus c = let w = read-minus c.args.f.now c.requires _ (ap Some (sym c.in-Some-Minus.field-0-is) ∙ c.in-Some-Minus.ensures) in (w.1, omega (arith, w.0))

pub returns-in-None : goal.returns-in-None
returns-in-None c = (read_none c.args.f.now c.in-None.ensures, omega arith)

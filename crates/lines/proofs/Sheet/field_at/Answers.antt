use Rattle.lines.proofs.Line.{fields-are}
use mathlib.Core.Path.{◌∙◌}
use Rattle.lines.proofs.Sheet.field_at.Goals as goal

pub returns : goal.returns
returns c = (c.field.ensures ∙ rw (c.form_at.ensures.0, c.line_at.ensures.0, fields-are c.args.self.now c.line_at.ensures.1 c.args.i c.requires), c.line_at.ensures.1)

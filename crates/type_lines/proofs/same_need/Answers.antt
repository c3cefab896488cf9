use mathlib.Core.Path.{◌∙◌}
use Rattle.type_lines.proofs.Spelling.{texts-are}
use Rattle.type_lines.proofs.same_need.Goals as goal

pub returns : goal.returns
returns c = c.same.ensures ∙ rw (c.line_at-l.ensures.0, c.line_at.ensures.0) (texts-are c.requires.0 c.requires.1)

use mathlib.Core.Path.{◌∙◌}
use Rattle.type_lines.proofs.Frames.{frames-count}
use Rattle.type_lines.proofs.frame.frames_of.Goals as goal

pub returns : goal.returns
returns c = c.from.ensures ∙ frames-count c.args.sheet.now c.requires.0 c.args.i c.requires.1 c.is_frame.result c.is_frame.ensures

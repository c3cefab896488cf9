use Rattle.records.proofs.Picks.{name-is}
use mathlib.Core.Path.{sym, ◌∙◌}
use Rattle.records.proofs.line.record_name.Goals as goal

pub returns : goal.returns
returns c = c.field_at.ensures.0 ∙ sym (name-is c.args.sheet.now c.args.r c.requires)

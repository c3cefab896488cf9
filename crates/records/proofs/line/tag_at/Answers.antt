use Rattle.records.proofs.Picks.{tags-few, tag_is}
use native.Mathlib.Omega.{arith}
use mathlib.Core.Path.{sym, ◌∙◌}
use Rattle.records.proofs.line.tag_at.Goals as goal

pub overflow_add-p : goal.overflow_add-p
overflow_add-p c = record { fits = omega (arith, c.requires.1, tags-few c.args.sheet.now c.args.v c.requires.0) }

pub returns : goal.returns
returns c = c.field_at.ensures.0 ∙ sym (tag_is c.args.sheet.now c.args.v c.requires.0 c.args.p c.requires.1)

use Rattle.shapes.proofs.Cases.{else-pick}
use mathlib.Core.Path.{◌∙◌}
use Rattle.shapes.proofs.record_size.Goals as goal

pub pick_size-requires : goal.pick_size-requires
pick_size-requires c = else-pick c.args.sheet.now c.args.r c.requires (λ e. c.if-form_at-eq-ADT.false (c.form_at.ensures.0 ∙ e))

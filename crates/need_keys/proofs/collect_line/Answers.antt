use mathlib.Core.Path.{◌∙◌, sym, ap}
use Rattle.form.specs.Table.{kind_at}
use Rattle.lines.proofs.Line.{kind-is}
use Rattle.checks.proofs.Kept.{outside-all}
use Rattle.need_keys.proofs.Pass.{collecting-stay, collecting-need}
use Rattle.need_keys.proofs.collect_line.Goals as goal

pub returns-then-kind-ne-NEED : goal.returns-then-kind-ne-NEED
returns-then-kind-ne-NEED c = (collecting-stay c.args.sheet.now c.args.work.now c.args.i c.args.counts.needs c.args.counts.keys c.requires.0 c.requires.1 (λ e. c.if-kind-ne-NEED.true (c.kind.ensures ∙ ap kind_at c.form_at.ensures.0 ∙ sym (kind-is c.args.sheet.now c.requires.0.checked.whole c.args.i c.requires.1) ∙ e)), outside-all)

pub collect_need-requires : goal.collect_need-requires
collect_need-requires c = collecting-need c.args.sheet.now c.args.work.now c.args.i c.args.counts.needs c.args.counts.keys c.requires.0 c.requires.1 (kind-is c.args.sheet.now c.requires.0.checked.whole c.args.i c.requires.1 ∙ sym (c.kind.ensures ∙ ap kind_at c.form_at.ensures.0) ∙ c.if-kind-ne-NEED.false)

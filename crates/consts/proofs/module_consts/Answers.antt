-- `consts::module_consts` meets its contract.
use Rattle.consts.proofs.Walk as Walk
use Rattle.checks.proofs.Kept.{kept-all}
use mathlib.Core.Path.{◌∙◌, sym}
use Rattle.consts.proofs.module_consts.Goals as goal

pub returns-then-kind-ne-MOD : goal.returns-then-kind-ne-MOD
returns-then-kind-ne-MOD c = (kept-all, Walk.past-other c.args.sheet.now c.args.work.now c.args.m c.args.i c.requires.0 c.requires.1 (λ q. c.if-kind-ne-MOD.true (sym (Walk.kind-read c.requires.0.checked c.requires.1 c.form_at.ensures.0 c.kind.ensures) ∙ q)))

pub pass_consts-requires : goal.pass_consts-requires
pass_consts-requires c = Walk.module-group c.args.sheet.now c.args.work.now c.args.m c.args.i c.requires.0 c.requires.1 (Walk.kind-read c.requires.0.checked c.requires.1 c.form_at.ensures.0 c.kind.ensures ∙ c.if-kind-ne-MOD.false)

pub returns : goal.returns
returns c = (c.pass_consts.ensures.0, Walk.past-module c.args.sheet.now c.args.work.now c.args.m c.args.i c.requires.0 c.requires.1 (Walk.kind-read c.requires.0.checked c.requires.1 c.form_at.ensures.0 c.kind.ensures ∙ c.if-kind-ne-MOD.false) _ c.pass_consts.ensures.0 c.pass_consts.result c.pass_consts.ensures.1)

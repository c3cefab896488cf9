-- `consts::visit` meets its contract.
use Rattle.implement.specs.Modules.{line_number}
use Rattle.consts.proofs.Walk as Walk
use Rattle.checks.proofs.Kept.{kept-all}
use Rattle.consts.proofs.visit.Goals as goal

pub returns-then-kind-ne-CON : goal.returns-then-kind-ne-CON
returns-then-kind-ne-CON c = (kept-all, Walk.moves-other c.args.sheet.now c.args.work.now (line_number c.args.k) c.args.p c.requires.0 c.requires.1 (Walk.kind-read c.requires.0.checked c.requires.1 c.form_at.ensures.0 c.kind.ensures) c.if-kind-ne-CON.true c.open_after.ensures)

pub visit_constant-requires : goal.visit_constant-requires
visit_constant-requires c = (c.requires.0, Walk.at_constant c.args.sheet.now c.args.work.now (line_number c.args.k) c.args.p c.requires.0 c.requires.1 (Walk.kind-read c.requires.0.checked c.requires.1 c.form_at.ensures.0 c.kind.ensures) c.if-kind-ne-CON.false (Walk.line-same _ _ c.eq.ensures c.if-eq.true))

pub returns : goal.returns
returns c = (kept-all, Walk.moves_out c.args.sheet.now c.args.work.now (line_number c.args.k) c.args.p c.requires.0 c.requires.1 (Walk.kind-read c.requires.0.checked c.requires.1 c.form_at.ensures.0 c.kind.ensures) c.if-kind-ne-CON.false (Walk.line-other _ _ c.eq.ensures c.if-eq.false))

-- `globals::laid_line` meets its contract.
use Rattle.globals.proofs.Laid.{laid-other, laid-skipped, laid-here}
use Rattle.globals.proofs.laid_line.Goals.{else-form_at-eq-VAR-via-then-form_at-eq-VAR+else-is_own, else-form_at-eq-VAR-via-else-form_at-eq-VAR}
use Rattle.globals.proofs.laid_line.Goals as goal

pub returns-then-is_own : goal.returns-then-is_own
returns-then-is_own c = laid-here c.requires.0 c.requires.1 c.form_at.ensures.0 c.if-form_at-eq-VAR.true c.is_own.ensures c.if-is_own.true

pub returns-else-form_at-eq-VAR : goal.returns-else-form_at-eq-VAR
returns-else-form_at-eq-VAR c =
    let p = c.requires in (
      elim c.else-form_at-eq-VAR.branch [
        | else-form_at-eq-VAR-via-then-form_at-eq-VAR+else-is_own w ↦ laid-skipped p.0 p.1 c.form_at.ensures.0 w.if-form_at-eq-VAR.true w.is_own.ensures w.if-is_own.false
        | else-form_at-eq-VAR-via-else-form_at-eq-VAR w ↦ laid-other p.0 p.1 c.form_at.ensures.0 w.if-form_at-eq-VAR.false
      ],
      tt,
    )

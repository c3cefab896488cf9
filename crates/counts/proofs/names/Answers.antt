-- `counts::names` meets its contract.
use native.Mathlib.Omega.{arith}
use mathlib.Core.Path.{◌∙◌, sym}
use Rattle.counts.proofs.Laws.{names-exact, names-var, names-none}
use Rattle.counts.proofs.names.Goals as goal

pub returns-then-k-eq-VAR : goal.returns-then-k-eq-VAR
returns-then-k-eq-VAR c = (names-var c.args.sheet.now c.args.i c.args.k c.requires.1 c.if-k-eq-VAR.true (c.number_at.ensures.0 ∙ names-exact c.args.sheet.now c.number_at.ensures.2 c.args.i c.requires.0 (sym c.requires.1 ∙ c.if-k-eq-VAR.true)), c.number_at.ensures.1)

pub returns-else-k-eq-VAR : goal.returns-else-k-eq-VAR
returns-else-k-eq-VAR c = (names-none c.args.sheet.now c.args.i c.args.k c.requires.1 c.if-k-eq-VAR.false, omega arith)

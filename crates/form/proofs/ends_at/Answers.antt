use native.Mathlib.Omega.{arith}
use Rattle.form.proofs.Compared.{ends-hit, ends-end}
use Rattle.form.proofs.ends_at.Goals as goal

pub returns-then-e-l : goal.returns-then-e-l
returns-then-e-l c = ends-end c.args.l.now c.args.e c.if-e-l.true

pub returns : goal.returns
returns c = ends-hit c.args.l.now c.args.e (omega arith)

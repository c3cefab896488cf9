use Prim.Native.Nat.{◌+◌}
use mathlib.Core.Path.{◌∙◌, sym}
use native.Mathlib.Omega.{arith}
use Rattle.form.proofs.Compared.{first-none, first-field}
use Rattle.form.proofs.first_is.Goals as goal

pub returns-then-l-at : goal.returns-then-l-at
returns-then-l-at c = rw (sym c.width-at.ensures.0) (first-none c.args.l.now c.args.name.now (c.width-at.result + 1) (omega arith))

pub returns : goal.returns
returns c = c.stands_at.ensures ∙ rw (sym c.width-at.ensures.0, first-field c.args.l.now (c.width-at.result + 1) (omega arith))

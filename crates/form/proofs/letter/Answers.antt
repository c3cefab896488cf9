-- `form::letter` meets its contract.
use native.Mathlib.Omega.{arith}
use Rattle.form.proofs.Laws.{head-many, head-one}
use Rattle.form.proofs.Table.{codes-short}
use mathlib.Core.Path.{◌∙◌}
use Rattle.form.proofs.letter.Goals as goal

pub returns-then-w-gt0 : goal.returns-then-w-gt0
returns-then-w-gt0 c = head-many c.args.f c.args.w.next c.args.w.left c.args.w.letter c.if-w-gt0.true

pub field_letter-requires : goal.field_letter-requires
field_letter-requires c = (c.requires.form, omega (arith, codes-short c.args.f c.requires.form, c.requires.within))

pub returns : goal.returns
returns c = c.field_letter.ensures ∙ head-one c.args.f c.args.w.next c.args.w.left c.args.w.letter c.if-w-gt0.false

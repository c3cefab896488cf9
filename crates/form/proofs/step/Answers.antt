-- `form::step` meets its contract.
use mathlib.Core.Path.{refl}
use Rattle.form.proofs.Laws.{step-within, step-many, step-one}
use Rattle.form.proofs.step.Goals as goal

pub returns-then-left-gt0 : goal.returns-then-left-gt0
returns-then-left-gt0 c = (λ f ready hx nb. step-within f c.args.w.next c.args.w.left c.args.w.letter c.args.x c.args.n ready hx nb c.if-left-gt0.true, refl)

pub returns-then-x-ge-MANY : goal.returns-then-x-ge-MANY
returns-then-x-ge-MANY c = (λ f ready hx nb. step-many f c.args.w.next c.args.w.left c.args.w.letter c.args.x c.args.n ready hx nb c.if-left-gt0.false c.if-x-ge-MANY.true, refl)

pub returns : goal.returns
returns c = (λ f ready hx nb. step-one f c.args.w.next c.args.w.left c.args.w.letter c.args.x c.args.n ready hx nb c.if-left-gt0.false c.if-x-ge-MANY.false, refl)

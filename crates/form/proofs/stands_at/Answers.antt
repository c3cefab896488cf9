use Prim.Native.Nat.{◌-◌}
use mathlib.Core.Path.{◌≡◌, sym, ◌∙◌}
use native.Mathlib.Omega.{arith}
use Rattle.form.proofs.Compared.{stands-short, stands_on, stands-end, stands-all, stands-comma, stands-next, stands-not}
use Rattle.form.proofs.stands_at.Goals as goal

pub returns-then-l-at : goal.returns-then-l-at
returns-then-l-at c = stands-short c.args.name.now c.args.l.now c.args.at c.requires c.if-l-at.true

pub returns-then-not-ends_at : goal.returns-then-not-ends_at
returns-then-not-ends_at c = stands_on c.args.name.now c.args.l.now c.args.at (omega (arith, c.if-l-at.false, c.requires)) (sym c.ends_at.ensures ∙ c.if-not-ends_at.true)

pub loop-i-init : goal.loop-i-init
loop-i-init c = (omega arith, omega (arith, c.if-l-at.false, c.requires), stands-end c.args.name.now c.args.l.now c.args.at (sym c.ends_at.ensures ∙ c.if-not-ends_at.false))

pub returns-then-x-name : goal.returns-then-x-name
returns-then-x-name c = stands-not c.args.name.now c.args.l.now c.args.at _ (omega arith) (omega arith) c.if-x-name.true

pub returns-then-x-eq44 : goal.returns-then-x-eq44
returns-then-x-eq44 c = stands-comma c.args.name.now c.args.l.now c.args.at _ (omega arith) (omega arith) c.if-x-eq44.true

pub loop-i-preserved : goal.loop-i-preserved
loop-i-preserved c = (omega arith, c.loop-i.invariant.1, stands-next c.args.name.now c.args.l.now c.args.at (c.loop-i.i - 1) (omega arith) (omega arith) c.if-x-eq44.false c.loop-i.i (omega arith) c.if-x-name.false c.loop-i.invariant.2)

pub returns : goal.returns
returns c = let z : c.loop-i.i ≡ 0 = omega arith in stands-all c.args.name.now c.args.l.now c.args.at (rw z at c.loop-i.invariant.2)

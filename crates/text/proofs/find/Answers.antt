use mathlib.Core.Path.{◌∙◌, ap}
use native.Mathlib.Omega.{arith}
use lib.ListN.{length}
use Rattle.text.proofs.Parts.{until-hit, until-miss, until_end}
use Rattle.text.proofs.find.Goals as goal

pub returns-then-s-i : goal.returns-then-s-i
returns-then-s-i c =
    let a = c.args in
    omega (arith, ap length (until-hit a.s.now a.b c.loop-i.i c.loop-i-test.true c.if-s-i.true))

pub loop-i-preserved : goal.loop-i-preserved
loop-i-preserved c =
    let l = c.loop-i in
    let a = c.args in
    l.invariant ∙ until-miss a.s.now a.b l.i c.loop-i-test.true c.if-s-i.false

pub returns : goal.returns
returns c =
    let a = c.args in
    omega (arith, ap length (until_end a.s.now a.b c.loop-i.i c.loop-i-test.false))

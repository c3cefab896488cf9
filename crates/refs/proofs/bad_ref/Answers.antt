use native.Mathlib.Omega.{arith}
use Rattle.answers.specs.declared.Refusal.TheVariants.{BadReference}
use Rattle.answers.proofs.First.{at-first, no-first}
use Rattle.refs.proofs.Laws.{passing-end, passing-bad, passing-next, outcome-bad, outcome-good}
use Rattle.refs.proofs.bad_ref.Goals as goal

pub returns-then-not-use_refs : goal.returns-then-not-use_refs
returns-then-not-use_refs c =
    let g = c.loop-i.invariant in
    let bad = outcome-bad _ _ c.use_refs.result c.if-not-use_refs.true (c.use_refs.ensures g.us g.table) in
    at-first BadReference c.loop-i.i (passing-bad c.args.sheet.now c.loop-i.work c.loop-i.i g (omega (arith, c.count-i-end.ensures.0, c.loop-i-test.true)) bad)

pub loop-i-preserved : goal.loop-i-preserved
loop-i-preserved c =
    let g = c.loop-i.invariant in
    passing-next c.args.sheet.now c.loop-i.work c.loop-i.i g (omega (arith, c.count-i-end.ensures.0, c.loop-i-test.true)) c.use_refs.new.work (outcome-good _ _ c.use_refs.result c.if-not-use_refs.false (c.use_refs.ensures g.us g.table))

pub returns : goal.returns
returns c = no-first BadReference (passing-end c.args.sheet.now c.loop-i.work c.loop-i.i c.loop-i.invariant (omega (arith, c.count-i-end.ensures.0, c.loop-i-test.false)))

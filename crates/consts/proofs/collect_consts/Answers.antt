use Rattle.consts.proofs.Walk as Walk
use Rattle.checks.proofs.Kept.{kept-all, kept_then}
use native.Mathlib.Omega.{arith}
use Rattle.consts.proofs.collect_consts.Goals as goal

pub loop-i-init : goal.loop-i-init
loop-i-init c = (Walk.start-before c.args.sheet.now c.args.work.now c.requires, kept-all, Walk.start-same c.args.sheet.now c.args.work.now c.requires, omega arith)

pub pass_consts-requires : goal.pass_consts-requires
pass_consts-requires c = Walk.top-group c.args.sheet.now c.loop-i.work c.loop-i.m c.loop-i.i c.loop-i.invariant.0

pub returns : goal.returns
returns c = (kept_then c.loop-i.invariant.1 c.pass_consts.ensures.0, Walk.past_all c.args.sheet.now c.loop-i.work c.loop-i.m c.loop-i.i c.loop-i.invariant.0 (omega (arith, c.count-i-end.ensures.0, c.loop-i-test.false)) c.loop-i.invariant.2 _ c.pass_consts.result c.pass_consts.ensures.1)

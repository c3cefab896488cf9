use mathlib.Core.Path.{refl}
use Rattle.std.proofs.lemmas.Result.{err_from_is_err_and}
use native.Mathlib.Omega.{arith}
use Rattle.checks.proofs.Kept.{kept-all, kept_then}
use Rattle.consts.proofs.Walk as Walk
use Rattle.consts.proofs.pass_consts.Goals as goal

pub loop-p-init : goal.loop-p-init
loop-p-init c = rw c.line_number.ensures (Walk.begins c.args.sheet.now c.args.work.now c.args.m c.args.k c.requires, kept-all, refl, Walk.begin-count c.args.sheet.now c.args.work.now c.args.m c.args.k c.requires, omega arith)

pub returns-then-is_left : goal.returns-then-is_left
returns-then-is_left c = (c.loop-p.invariant.1, Walk.pass-done c.args.sheet.now c.args.work.now c.args.m c.args.k c.requires _ c.loop-p.p c.loop-p.invariant.0 c.loop-p.invariant.2 (Walk.at_left c.args.sheet.now c.args.work.now c.args.m c.args.k c.requires _ c.loop-p.p c.loop-p.invariant.0 c.loop-p.invariant.2 c.is_left.ensures c.if-is_left.true c.loop-p.invariant.4) c.loop-p.invariant.3)

pub returns-in_err-p : goal.returns-in_err-p
returns-in_err-p c =
    let e = c.in_err-p.ensures in
    let p = err_from_is_err_and c.from_residual.result c.from_residual.ensures.1 in
    rw (p.1, p.2) (kept_then c.loop-p.invariant.1 e.0, (Walk.pass-refused c.args.sheet.now c.args.work.now c.args.m c.args.k c.requires _ c.loop-p.p c.loop-p.invariant.0 c.loop-p.invariant.2 e.1.0, e.1.1))

pub returns : goal.returns
returns c = (c.loop-p.invariant.1, Walk.pass-done c.args.sheet.now c.args.work.now c.args.m c.args.k c.requires _ c.loop-p.p c.loop-p.invariant.0 c.loop-p.invariant.2 (Walk.at-end c.args.sheet.now c.args.work.now c.args.m c.args.k c.requires _ c.loop-p.p c.loop-p.invariant.0 c.loop-p.invariant.2 (omega (arith, c.count.ensures.0, c.loop-p-test.false))) c.loop-p.invariant.3)

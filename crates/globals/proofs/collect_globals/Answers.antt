use native.Mathlib.Omega.{arith}
use mathlib.Core.Path.{refl}
use Rattle.globals.proofs.Collect.{lines-laid-start, lines-laid-here, lines-laid-next, lines-laid-end}
use Rattle.globals.proofs.collect_globals.Goals as goal

pub loop-i-init : goal.loop-i-init
loop-i-init c = lines-laid-start c.args.sheet.now c.args.work.now c.requires refl refl

pub declare_line-g-requires : goal.declare_line-g-requires
declare_line-g-requires c =
    let l = c.loop-i in
    lines-laid-here c.args.sheet.now c.args.work.now c.requires l.work l.g l.k l.i l.invariant (omega (arith, c.count-i-end.ensures.0, c.loop-i-test.true))

pub loop-i-preserved : goal.loop-i-preserved
loop-i-preserved c =
    let l = c.loop-i in
    lines-laid-next c.args.sheet.now c.args.work.now c.requires l.work l.g l.k l.i l.invariant (omega (arith, c.count-i-end.ensures.0, c.loop-i-test.true)) c.declare_line-g.ensures c.open_after-k.ensures

pub returns : goal.returns
returns c =
    let l = c.loop-i in
    lines-laid-end c.args.sheet.now c.args.work.now c.requires l.work l.g l.k l.i l.invariant (omega (arith, c.count-i-end.ensures.0, c.loop-i-test.false))

use native.Mathlib.Omega.{arith}
use Rattle.std.proofs.lemmas.Result.{err_from_is_err_and}
use Rattle.pends.proofs.Walk.{walk_start, walk-log, walk-next, walk-stop, walk_end}
use Rattle.pends.proofs.pend_rows.Goals as goal

pub loop-i-init : goal.loop-i-init
loop-i-init c = walk_start c.requires _ c.args.w.now.room

pub pend_line-requires : goal.pend_line-requires
pend_line-requires c = (c.laid_line-r.ensures.1, walk-log c.requires c.loop-i.invariant)

pub returns-in_err-pend_line : goal.returns-in_err-pend_line
returns-in_err-pend_line c =
    let p = err_from_is_err_and c.from_residual.result c.from_residual.ensures.1 in
    rw (p.1, p.2) (walk-stop c.requires c.loop-i.invariant c.laid_line-r.result c.laid_line-r.ensures.0 c.in_err-pend_line.field-0.0 c.in_err-pend_line.ensures (omega (arith, c.count-i-end.ensures.0, c.loop-i-test.true)))

pub open_after-k-requires : goal.open_after-k-requires
open_after-k-requires c = (c.loop-i.invariant.here, omega (arith, c.count-i-end.ensures.0, c.loop-i-test.true))

pub loop-i-preserved : goal.loop-i-preserved
loop-i-preserved c = walk-next c.requires c.loop-i.invariant c.laid_line-r.result c.laid_line-r.ensures.0 c.in_ok-pend_line.ensures c.open_after-k.ensures

pub returns : goal.returns
returns c = walk_end c.requires c.loop-i.invariant (omega (arith, c.count-i-end.ensures.0, c.loop-i-test.false))

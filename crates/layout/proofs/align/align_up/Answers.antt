-- `align::align_up` meets its contract.
use Rattle.std.proofs.Common.{sym, arith}
use Rattle.layout.proofs.Rounding.{zero-align, multiple-is}
use Rattle.layout.proofs.align.align_up.Goals as goal

pub returns-then-align-eq0 : goal.returns-then-align-eq0
returns-then-align-eq0 c = (rw c.if-align-eq0.true (sym (zero-align c.args.off)), omega arith)

pub returns : goal.returns
returns c =
    let n = c.next_multiple_of in
    (multiple-is c.args.align c.args.off n.result (omega arith) (rw c.from-2.ensures at n.ensures.multiple) (omega (arith, n.ensures.lower_bound)) (omega (arith, n.ensures.upper_bound)), omega (arith, n.ensures.upper_bound))

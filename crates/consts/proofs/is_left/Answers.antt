-- `consts::is_left` meets its contract.
use mathlib.Core.Path.{sym, ◌∙◌}
use Rattle.consts.proofs.Walk.{left-is}
use Rattle.consts.proofs.is_left.Goals as goal

pub returns-then-is_some : goal.returns-then-is_some
returns-then-is_some c =
    let e = sym c.is_some.ensures ∙ c.if-is_some.true in
    rw (left-is c.args.k c.args.within, e) c.ne.ensures

pub returns-else-is_some : goal.returns-else-is_some
returns-else-is_some c =
    let e = sym c.is_some.ensures ∙ c.if-is_some.false in
    rw (left-is c.args.k c.args.within, e) c.if-is_some.false

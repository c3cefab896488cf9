-- `placements::has` meets its contract.
use Rattle.std.proofs.Common.{sym, ◌∙◌}
use Rattle.placements.proofs.Values.{kind-found, none-of-kind-next, none-of-kind-end, equal-kinds, other-kinds}
use Rattle.placements.proofs.has.Goals as goal

pub returns-then-eq : goal.returns-then-eq
returns-then-eq c = kind-found c.loop-i.invariant c.loop-i-test.true c.element.result c.element.ensures c.kind_of.ensures (equal-kinds c.kind_of.result c.args.wanted (sym c.eq.ensures ∙ c.if-eq.true))

pub loop-i-preserved : goal.loop-i-preserved
loop-i-preserved c = none-of-kind-next c.loop-i.invariant c.loop-i-test.true c.element.result c.element.ensures c.kind_of.ensures (other-kinds c.kind_of.result c.args.wanted (sym c.eq.ensures ∙ c.if-eq.false))

pub returns : goal.returns
returns c = none-of-kind-end c.loop-i.invariant c.loop-i-test.false

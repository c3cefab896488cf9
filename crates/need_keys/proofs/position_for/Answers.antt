use Rattle.std.proofs.Common.{rules}
use native.Mathlib.Omega.{arith}
use mathlib.Core.Path.{◌∙◌}
use Rattle.chains.proofs.Laws.{along-first, along-low, along-next, along-end, earlier-less}
use Rattle.type_keys.specs.Table.{need_chains}
use Rattle.type_keys.proofs.Table.{need-room}
use Rattle.need_keys.proofs.Pass.{needs-room, found-position, found-chain, next-position}
use Rattle.need_keys.proofs.position_for.Goals as goal

pub newest-next-requires : goal.newest-next-requires
newest-next-requires c = need-room (search rules)

pub loop-next-init : goal.loop-next-init
loop-next-init c =
    let p = c.requires in
    along-first p.0.collecting.chained (omega arith) (λ j l. found-chain p.0 j l p.1) c.newest-next.ensures

pub returns-then-has_need_key : goal.returns-then-has_need_key
returns-then-has_need_key c =
    c.need_position.ensures.0 ∙ found-position c.requires.0 _ (along-low c.loop-next.invariant c.in-Some.is) c.has_need_key.ensures c.if-has_need_key.true

pub earlier-next-requires : goal.earlier-next-requires
earlier-next-requires c =
    let x = c.requires.0 in
    (need-room (search rules), omega (arith, along-low c.loop-next.invariant c.in-Some.is, (needs-room x).0))

pub loop-next-smaller : goal.loop-next-smaller
loop-next-smaller c = earlier-less c.args.work.now need_chains c.in-Some.is c.earlier-next.ensures

pub loop-next-preserved : goal.loop-next-preserved
loop-next-preserved c = along-next c.loop-next.invariant c.in-Some.is c.has_need_key.ensures c.if-has_need_key.false c.earlier-next.ensures

pub returns : goal.returns
returns c = next-position c.requires.0 (along-end c.in_default.is c.loop-next.invariant)

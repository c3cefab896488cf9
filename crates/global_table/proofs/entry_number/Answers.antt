use Rattle.std.proofs.Common.{rules}
use native.Mathlib.Omega.{arith}
use Rattle.chains.proofs.Laws.{along-first, along-low, along-found, along-next, along-end, earlier-less}
use Rattle.global_table.specs.Table.{global_chains}
use Rattle.global_table.proofs.Table.{global-room, named-chain, found-is}
use Rattle.global_table.proofs.entry_number.Goals as goal

pub newest-next-requires : goal.newest-next-requires
newest-next-requires c = global-room (search rules)

pub loop-next-init : goal.loop-next-init
loop-next-init c =
    along-first c.requires.chained (omega arith) (named-chain c.args.name.now c.requires c.digest-d.ensures.0) c.newest-next.ensures

pub is_named-requires : goal.is_named-requires
is_named-requires c = (c.requires.entries _ (along-low c.loop-next.invariant c.in-Some.is), c.digest-d.ensures.0)

pub returns-then-is_named : goal.returns-then-is_named
returns-then-is_named c =
    found-is c.args.name.now c.requires (along-found c.loop-next.invariant c.in-Some.is c.is_named.ensures c.if-is_named.true)

pub earlier-next-requires : goal.earlier-next-requires
earlier-next-requires c =
    let p = c.requires in
    (global-room (search rules), omega (arith, along-low c.loop-next.invariant c.in-Some.is, p.few))

pub loop-next-smaller : goal.loop-next-smaller
loop-next-smaller c = earlier-less c.args.work.now global_chains c.in-Some.is c.earlier-next.ensures

pub loop-next-preserved : goal.loop-next-preserved
loop-next-preserved c = along-next c.loop-next.invariant c.in-Some.is c.is_named.ensures c.if-is_named.false c.earlier-next.ensures

pub returns : goal.returns
returns c = found-is c.args.name.now c.requires (along-end c.in_default.is c.loop-next.invariant)

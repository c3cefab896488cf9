use Rattle.std.proofs.Common.{rules}
use Rattle.records.proofs.Newest.{record-room, key-chain, newest-is}
use Rattle.records.specs.Log.{record_chains}
use Rattle.chains.proofs.Laws.{along-first, along-low, along-found, along-next, along-end, earlier-less}
use Rattle.chains.specs.Chains.{chain_of}
use mathlib.Core.Path.{ap}
use native.Mathlib.Omega.{arith}
use Rattle.records.proofs.key.newest.Goals as goal

pub newest-next-requires : goal.newest-next-requires
newest-next-requires c = record-room _ (search rules)

pub loop-next-init : goal.loop-next-init
loop-next-init c =
    let a = c.args in
    let g = c.requires in
    along-first g.chained (omega arith) (key-chain a.sheet.now a.work.now a.entries g a.key.now (ap chain_of c.digest-d.ensures.0)) c.newest-next.ensures

pub returns-then-key_is : goal.returns-then-key_is
returns-then-key_is c =
    let a = c.args in
    newest-is a.sheet.now a.work.now a.entries c.requires a.key.now (along-found c.loop-next.invariant c.in-Some.is c.key_is.ensures c.if-key_is.true)

pub earlier-next-requires : goal.earlier-next-requires
earlier-next-requires c = let g = c.requires in (record-room _ (search rules), omega (arith, along-low c.loop-next.invariant c.in-Some.is, g.few))

pub loop-next-smaller : goal.loop-next-smaller
loop-next-smaller c = earlier-less c.args.work.now record_chains c.in-Some.is c.earlier-next.ensures

pub loop-next-preserved : goal.loop-next-preserved
loop-next-preserved c = along-next c.loop-next.invariant c.in-Some.is c.key_is.ensures c.if-key_is.false c.earlier-next.ensures

pub returns : goal.returns
returns c =
    let a = c.args in
    newest-is a.sheet.now a.work.now a.entries c.requires a.key.now (along-end c.in_default.is c.loop-next.invariant)

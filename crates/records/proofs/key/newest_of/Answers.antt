use Rattle.std.proofs.Common.{rules}
use Rattle.records.proofs.Newest.{record-room, key-chain, own-chain, newest-own, newest-there}
use Rattle.records.specs.Log.{recorded_at, record_chains}
use Rattle.chains.proofs.Laws.{along-first, along-low, along-found, along-next, along-end, chain-small, earlier-less}
use Rattle.chains.specs.Chains.{chain_at}
use native.Mathlib.Omega.{arith}
use Rattle.records.proofs.key.newest_of.Goals as goal

pub digest_at-requires : goal.digest_at-requires
digest_at-requires c = let p = c.requires in (record-room _ (search rules), omega (arith, p.1, p.0.few))

pub newest-next-requires : goal.newest-next-requires
newest-next-requires c = record-room _ (search rules)

pub loop-next-init : goal.loop-next-init
unfolding chain_at
loop-next-init c =
    let a = c.args in
    let s = a.sheet.now in
    let w = a.work.now in
    let p = c.requires in
    let e = own-chain s w a.entries p.0 a.i p.1 in
    along-first p.0.chained (chain-small w record_chains a.i) (key-chain s w a.entries p.0 (recorded_at s w a.i).key e) (rw c.digest_at.ensures.0 at c.newest-next.ensures)

pub returns-then-same_key : goal.returns-then-same_key
returns-then-same_key c =
    let a = c.args in
    let p = c.requires in
    newest-own a.sheet.now a.work.now a.entries p.0 a.i p.1 (along-found c.loop-next.invariant c.in-Some.is c.same_key.ensures c.if-same_key.true)

pub earlier-next-requires : goal.earlier-next-requires
earlier-next-requires c = let g = c.requires.0 in (record-room _ (search rules), omega (arith, along-low c.loop-next.invariant c.in-Some.is, g.few))

pub loop-next-smaller : goal.loop-next-smaller
loop-next-smaller c = earlier-less c.args.work.now record_chains c.in-Some.is c.earlier-next.ensures

pub loop-next-preserved : goal.loop-next-preserved
loop-next-preserved c = along-next c.loop-next.invariant c.in-Some.is c.same_key.ensures c.if-same_key.false c.earlier-next.ensures

pub returns : goal.returns
returns c =
    let a = c.args in
    let p = c.requires in
    absurd (newest-there a.sheet.now a.work.now a.entries p.0 a.i p.1 (along-end c.in_default.is c.loop-next.invariant))

use Rattle.std.proofs.Common.{rules}
use Rattle.records.proofs.Newest.{record-room, key-chain, own-chain, first-not, first-is}
use Rattle.records.specs.Log.{recorded_at, record_chains}
use Rattle.chains.proofs.Laws.{along-from, along-low, along-found, along-next, along-end, earlier-less}
use mathlib.Core.Path.{◌∙◌}
use native.Mathlib.Omega.{arith}
use Rattle.records.proofs.key.is_first.Goals as goal

pub earlier-next-requires : goal.earlier-next-requires
earlier-next-requires c = let g = c.requires in (record-room _ (search rules), omega (arith, g.low, g.log.few))

pub loop-next-init : goal.loop-next-init
loop-next-init c =
    let a = c.args in
    let s = a.sheet.now in
    let w = a.work.now in
    let g = c.requires in
    let e = own-chain s w g.m g.log a.i g.low in
    along-from (λ j h. g.log.chained.links j (omega (arith, h, g.low))) (λ j h. key-chain s w g.m g.log (recorded_at s w a.i).key e j (omega (arith, h, g.low))) (c.earlier-next.ensures ∙ g.log.chained.links a.i g.low)

pub returns-then-same_key : goal.returns-then-same_key
returns-then-same_key c =
    let a = c.args in
    let g = c.requires in
    let s = a.sheet.now in
    let w = a.work.now in
    first-not s w g.m g.log (recorded_at s w a.i).key (omega (arith, g.low)) (along-found c.loop-next.invariant c.in-Some.is c.same_key.ensures c.if-same_key.true)

pub earlier-next-requires-in-Some : goal.earlier-next-requires-in-Some
earlier-next-requires-in-Some c = let g = c.requires in (record-room _ (search rules), omega (arith, along-low c.loop-next.invariant c.in-Some.is, g.low, g.log.few))

pub loop-next-smaller : goal.loop-next-smaller
loop-next-smaller c = earlier-less c.args.work.now record_chains c.in-Some.is c.earlier-next-in-Some.ensures

pub loop-next-preserved : goal.loop-next-preserved
loop-next-preserved c = along-next c.loop-next.invariant c.in-Some.is c.same_key.ensures c.if-same_key.false c.earlier-next-in-Some.ensures

pub returns : goal.returns
returns c =
    let a = c.args in
    let g = c.requires in
    let s = a.sheet.now in
    let w = a.work.now in
    first-is s w g.m g.log (recorded_at s w a.i).key (omega (arith, g.low)) (along-end c.in_default.is c.loop-next.invariant)

use Rattle.names.proofs.Laws as Laws
use Rattle.names.specs.Table.{const_chains, key_of}
use Rattle.chains.proofs.Laws.{earlier-less}
use Rattle.names.proofs.along.Goals as goal

pub loop-next-init : goal.loop-next-init
loop-next-init c =
    let p = c.requires in
    Laws.asking-first p.0.logged.chained p.1 (Laws.key-member p.0 (key_of c.args.key) p.2)

pub returns-then-answers : goal.returns-then-answers
returns-then-answers c = Laws.asking-found c.loop-next.invariant c.in-Some.is c.answers.ensures c.if-answers.true

pub earlier-next-requires : goal.earlier-next-requires
earlier-next-requires c = Laws.entry-asked c.requires.0 c.requires.3 (Laws.asking-low c.loop-next.invariant c.in-Some.is)

pub loop-next-smaller : goal.loop-next-smaller
loop-next-smaller c = earlier-less c.args.work.now const_chains c.in-Some.is c.earlier-next.ensures

pub loop-next-preserved : goal.loop-next-preserved
loop-next-preserved c = Laws.asking-next c.loop-next.invariant c.in-Some.is c.answers.ensures c.if-answers.false c.earlier-next.ensures

pub returns : goal.returns
returns c = Laws.asking-end c.in_default.is c.loop-next.invariant

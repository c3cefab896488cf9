-- `names::qualified_digest` meets its contract.
use Rattle.names.proofs.Laws.{digest-implemented, digest-of-both}
use Rattle.names.proofs.qualified_digest.Goals as goal

pub returns-then-is_implemented : goal.returns-then-is_implemented
returns-then-is_implemented c =
    let a = c.args in
    (digest-implemented a.sheet.now a.within.now a.name.now c.is_implemented.ensures c.digest-d.ensures.0 c.if-is_implemented.true, c.digest-d.ensures.1)

pub returns : goal.returns
returns c =
    let a = c.args in
    (digest-of-both a.sheet.now a.within.now a.name.now c.is_implemented.ensures c.digest-d.ensures.0 c.if-is_implemented.false c.digest_on.ensures.0, c.digest_on.ensures.1)

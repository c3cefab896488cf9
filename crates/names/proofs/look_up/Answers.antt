-- `names::look_up` meets its contract.
use Rattle.names.proofs.Laws as Laws
use Rattle.names.specs.Table.{key_of}
use native.Mathlib.Omega.{arith}
use Rattle.names.proofs.look_up.Goals as goal

pub newest-newest-requires : goal.newest-newest-requires
newest-newest-requires c = Laws.const-room c.requires.1

pub along-requires : goal.along-requires
along-requires c = let p = c.requires in (p.0, (Laws.newest-within p.0 c.key_digest-d.result c.newest-newest.ensures).0, c.key_digest-d.ensures, p.1)

pub returns : goal.returns
returns c =
    let a = c.args in
    Laws.looked a.sheet.now a.work.now (key_of a.key) (c.along.ensures a.consts (omega arith) (Laws.newest-within c.requires.0 c.key_digest-d.result c.newest-newest.ensures).1)

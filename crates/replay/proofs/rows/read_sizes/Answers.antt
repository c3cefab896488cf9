use Rattle.replay.proofs.Loops.{table_same}
use Rattle.std.proofs.Common.{rules}
use Rattle.replay.proofs.Loops.{sizes-on, sizes-all, cleared-rest, cleared-sizes, table-then}
use Rattle.replay.proofs.rows.read_sizes.Goals as goal

pub loop-at-init : goal.loop-at-init
loop-at-init c =
    let a = c.args in
    let z = c.zero in
    (table_same _, cleared-sizes a.work.now (search rules) z.ensures a.listing.now)

pub loop-at-preserved : goal.loop-at-preserved
loop-at-preserved c =
    let a = c.args in
    let l = c.loop-at in
    let t = c.loop-at-test in
    let e = c.find-e in
    let note-size = c.note_size in
    (table-then l.invariant.0 note-size.ensures.rest, sizes-on a.listing.now l.at e.result t.true e.ensures.0 note-size.ensures l.invariant.1)

pub returns : goal.returns
returns c =
    let a = c.args in
    let z = c.zero in
    let l = c.loop-at in
    sizes-all a.listing.now l.at c.loop-at-test.false l.invariant.1 (table-then (cleared-rest a.work.now (search rules) z.ensures) l.invariant.0)

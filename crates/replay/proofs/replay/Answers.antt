-- `replay::replay` meets its contract.
use Rattle.replay.proofs.Wholes.{replays-none, replays-some}
use mathlib.Core.Path.{◌∙◌}
use Rattle.replay.proofs.replay.Goals as goal

pub returns-then-s : goal.returns-then-s
returns-then-s c =
    let a = c.args in
    let z = c.zero in
    let zero2 = c.zero-2 in
    let read-sizes = c.read_sizes in
    let lay-rows = c.lay_rows-s in
    let if1 = c.if-s in
    let zero3 = c.zero-then-s in
    replays-none a.listing.now a.end a.work.now _ a.image.now _ _ a.area.now _ _ lay-rows.result z.ensures zero2.ensures read-sizes.ensures lay-rows.ensures if1.true (lay-rows.auto.image ∙ z.auto.out) (lay-rows.auto.area ∙ zero2.auto.out) zero3.ensures c.zero-then-s-2.ensures

pub returns : goal.returns
returns c =
    let a = c.args in
    let z = c.zero in
    let zero2 = c.zero-2 in
    let read-sizes = c.read_sizes in
    let lay-rows = c.lay_rows-s in
    replays-some a.listing.now a.end a.work.now _ a.image.now _ _ a.area.now _ _ lay-rows.result z.ensures zero2.ensures read-sizes.ensures lay-rows.ensures c.if-s.false

-- `record_log::enter_digest` meets its contract.
use Rattle.std.proofs.Common.{rules, ◌≤◌, arith}
use Rattle.records.proofs.Newest.{record-room}
use lib.ListN.{length, length-set}
use Prim.Native.Nat.{◌+◌, ◌*◌}
use Rattle.record_log.proofs.enter_digest.Goals as goal

pub link-requires : goal.link-requires
link-requires c =
    let a = c.args in
    let room : 62464 ≤ length a.work.now = search rules in
    (record-room _ (omega (arith, length-set a.work.now (9221 + 8 * a.i) a.d)), omega (arith, c.requires.0))

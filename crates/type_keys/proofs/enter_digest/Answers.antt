-- `type_keys::enter_digest` meets its contract.
use native.Mathlib.Omega.{arith}
use lib.ListN.{length-set}
use Rattle.type_keys.specs.Table.{digest_entered}
use Rattle.type_keys.proofs.Table.{need-room}
use Rattle.type_keys.proofs.enter_digest.Goals as goal

pub link-requires : goal.link-requires
link-requires c = (need-room (simp length-set (omega arith)), omega arith)

pub returns : goal.returns
unfolding digest_entered
returns c = c.link.ensures

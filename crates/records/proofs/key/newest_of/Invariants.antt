-- `records::key::newest_of` meets its contract.
use Rattle.records.proofs.Newest.{key_is}
use Rattle.records.specs.Log.{recorded_at, record_chains}
use Rattle.chains.proofs.Laws.{Along}
use Rattle.chains.specs.Chains.{chain_at, count_to}
use Rattle.records.proofs.key.newest_of.Given as goal

abbrev pub invariant-loop-next : goal.invariant-loop-next
invariant-loop-next l = Along l.work record_chains (chain_at l.work record_chains l.i) l.entries (key_is l.sheet l.work (recorded_at l.sheet l.work l.i).key) l.next

abbrev pub decreases-loop-next : goal.decreases-loop-next
decreases-loop-next l = count_to l.next

-- `records::key::newest` meets its contract.
use Rattle.records.proofs.Newest.{key_is}
use Rattle.records.specs.Log.{record_chains}
use Rattle.chains.proofs.Laws.{Along}
use Rattle.chains.specs.Chains.{chain_of, count_to}
use Rattle.records.proofs.key.newest.Given as goal

abbrev pub invariant-loop-next : goal.invariant-loop-next
invariant-loop-next l = Along l.work record_chains (chain_of l.d) l.entries (key_is l.sheet l.work l.key) l.next

abbrev pub decreases-loop-next : goal.decreases-loop-next
decreases-loop-next l = count_to l.next

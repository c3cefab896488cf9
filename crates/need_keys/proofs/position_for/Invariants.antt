-- `need_keys::position_for` meets its contract.
use Rattle.chains.specs.Chains.{chain_of, count_to}
use Rattle.chains.proofs.Laws.{Along}
use Rattle.type_keys.specs.Table.{need_chains}
use Rattle.need_keys.proofs.Pass.{has_need_key}
use Rattle.need_keys.proofs.position_for.Given as goal

abbrev pub invariant-loop-next : goal.invariant-loop-next
invariant-loop-next l = Along l.work need_chains (chain_of l.d) l.counts.needs (has_need_key l.sheet l.work l.i) l.next

abbrev pub decreases-loop-next : goal.decreases-loop-next
decreases-loop-next l = count_to l.next

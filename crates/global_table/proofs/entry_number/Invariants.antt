-- `global_table::entry_number` meets its contract.
use Rattle.chains.specs.Chains.{chain_of, count_to}
use Rattle.chains.proofs.Laws.{Along}
use Rattle.global_table.specs.Table.{global_chains}
use Rattle.global_table.proofs.Table.{has_name}
use Rattle.global_table.proofs.entry_number.Given as goal

abbrev pub invariant-loop-next : goal.invariant-loop-next
invariant-loop-next l = Along l.work global_chains (chain_of l.d) l.g (has_name l.sheet l.work l.name) l.next

abbrev pub decreases-loop-next : goal.decreases-loop-next
decreases-loop-next l = count_to l.next

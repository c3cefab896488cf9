-- `names::along` meets its contract.
use Rattle.names.proofs.Laws as Laws
use Rattle.names.specs.Table.{answers_key, key_of}
use Rattle.chains.specs.Chains.{chain_of, count_to}
use Prim.Native.Nat.{ℕ}
use Rattle.names.proofs.along.Given as goal

abbrev pub invariant-loop-next : goal.invariant-loop-next
invariant-loop-next l = Laws.Asking l.work (chain_of l.d) l.consts l.fn.newest (λ (j : ℕ). answers_key l.sheet l.work j (key_of l.key)) l.next

abbrev pub decreases-loop-next : goal.decreases-loop-next
decreases-loop-next l = count_to l.next

-- `counts::too_many` meets its contract.
use Rattle.counts.specs.Counts.{counts_of}
use Rattle.counts.proofs.Laws.{Counting}
use Rattle.counts.proofs.too_many.Given as goal

abbrev pub invariant-loop-i : goal.invariant-loop-i
invariant-loop-i l = Counting l.sheet l.i (counts_of l.t)

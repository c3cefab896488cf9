-- `counts::tags` meets its contract.
use Prim.Native.Nat.{◌-◌, ◌+◌}
use lib.ListN.{length}
use Rattle.counts.proofs.Laws.{TagsCounted}
use Rattle.counts.proofs.tags.Given as goal

abbrev pub invariant-loop-w : goal.invariant-loop-w
invariant-loop-w l = TagsCounted l.sheet l.i l.f l.l l.w l.count

abbrev pub decreases-loop-w : goal.decreases-loop-w
decreases-loop-w l = length l.l + 1 - l.w.at

-- `refs::use_refs` meets its contract.
use Prim.Native.Nat.{◌-◌, ◌+◌}
use lib.ListN.{length}
use Rattle.refs.proofs.Laws.{UsingRefs}
use Rattle.refs.proofs.use_refs.Given as goal

abbrev pub invariant-loop-w : goal.invariant-loop-w
invariant-loop-w l = UsingRefs l.sheet l.work l.i l.f l.l l.w l.initial.work

abbrev pub decreases-loop-w : goal.decreases-loop-w
decreases-loop-w l = length l.l + 1 - l.w.at

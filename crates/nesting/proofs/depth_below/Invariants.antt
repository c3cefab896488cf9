-- `nesting::depth_below` meets its contract.
use Prim.Native.Nat.{◌<◌, ◌-◌, ◌+◌}
use lib.ListN.{length}
use Rattle.nesting.proofs.Laws.{DeepestTo}
use Rattle.nesting.proofs.depth_below.Given as goal

abbrev pub invariant-loop-w : goal.invariant-loop-w
invariant-loop-w l = (l.depth < 256) × DeepestTo l.sheet l.work l.i l.f l.l l.w l.depth

abbrev pub decreases-loop-w : goal.decreases-loop-w
decreases-loop-w l = length l.l + 1 - l.w.at

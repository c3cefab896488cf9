-- `replay::rows::read_sizes` meets its contract. The rows from `at` on are still to be noted in the table.
use Rattle.replay.proofs.Loops.{SizesAt}
use Rattle.replay.specs.Rows.{OutOfTable}
use lib.ListN.{length}
use Prim.Native.Nat.{◌-◌}
use Rattle.replay.proofs.rows.read_sizes.Given as goal

abbrev pub invariant-loop-at : goal.invariant-loop-at
invariant-loop-at l = OutOfTable l.initial.work l.work × SizesAt l.listing l.at l.work

abbrev pub decreases-loop-at : goal.decreases-loop-at
decreases-loop-at l = length l.listing - l.at

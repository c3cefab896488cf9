-- `lines::index` meets its contract.
use Rattle.lines.proofs.Laws.{Going}
use mathlib.Core.Path.{◌≡◌}
use lib.ListN.{length}
use Prim.Native.Nat.{◌-◌, ◌+◌}
use Rattle.lines.proofs.index.Given as goal

abbrev pub invariant-loop-at : goal.invariant-loop-at
invariant-loop-at l = (length l.table ≡ 3072) × Going l.text l.table l.at l.n

abbrev pub decreases-loop-at : goal.decreases-loop-at
decreases-loop-at l = length l.text + 1 - l.at

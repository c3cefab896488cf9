use Prim.Native.Nat.{◌≤◌}
use Rattle.record_log.specs.Entries.{CollectedTo}
use Rattle.record_log.proofs.enter_digests.Given as goal

abbrev pub invariant-loop-i : goal.invariant-loop-i
invariant-loop-i l = (l.i ≤ l.m) × (CollectedTo l.sheet l.initial.work l.work l.m l.i)

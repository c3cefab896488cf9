use Rattle.record_log.specs.Entries.{entries_to, log_bytes}
use Rattle.lines.specs.Lines.{lines_in, nodes_in}
use Rattle.write.specs.Wrote.{Wrote}
use Prim.Native.Nat.{◌≤◌}
use Rattle.record_log.proofs.log_adts.Given as goal

abbrev pub invariant-loop-i : goal.invariant-loop-i
invariant-loop-i l = (l.i ≤ lines_in l.sheet) × (Wrote l.initial.work 9216 (log_bytes (entries_to (nodes_in l.sheet) l.i)) l.work l.at)

use Rattle.record_log.proofs.Log.{Casing}
use Rattle.record_log.proofs.put_cases.Given as goal

abbrev pub invariant-loop-c : goal.invariant-loop-c
invariant-loop-c l = Casing l.sheet l.r l.initial.work l.initial.p l.work l.p l.number l.c

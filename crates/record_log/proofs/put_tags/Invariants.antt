use Rattle.record_log.proofs.Table.{Tagging}
use Rattle.record_log.proofs.put_tags.Given as goal

abbrev pub invariant-loop-j : goal.invariant-loop-j
invariant-loop-j l = Tagging l.r l.case l.count l.number l.initial.work l.initial.p l.work l.p l.j

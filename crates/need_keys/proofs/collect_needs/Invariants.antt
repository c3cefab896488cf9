use Rattle.checks.specs.Checks.{Outside}
use Rattle.need_keys.specs.Pass.{Collecting}
use Rattle.need_keys.proofs.collect_needs.Given as goal

abbrev pub invariant-loop-i : goal.invariant-loop-i
invariant-loop-i l = (Collecting l.sheet l.work l.i l.counts.needs l.counts.keys) × (Outside 10240 11264 l.initial.work l.work)

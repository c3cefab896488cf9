use Rattle.checks.specs.Checks.{Kept}
use Rattle.shape_rows.proofs.print_variants.Given as goal

abbrev pub invariant-loop-c : goal.invariant-loop-c
invariant-loop-c g l = Kept 49152 l.initial.work l.work

use Rattle.checks.proofs.Kept.{kept-all, kept_then}
use Rattle.shape_rows.proofs.print_variants.Goals as goal

pub loop-c-init : goal.loop-c-init
loop-c-init g c = kept-all

pub loop-c-preserved : goal.loop-c-preserved
loop-c-preserved g c = kept_then c.loop-c.invariant c.print_variant.ensures

pub returns-in_err-print_variant : goal.returns-in_err-print_variant
returns-in_err-print_variant g c = kept_then c.loop-c.invariant c.in_err-print_variant.ensures

-- `marks::mark_names` meets its contract.
use native.Mathlib.Omega.{arith}
use mathlib.Core.Path.{refl}
use Rattle.sizes.proofs.Places.{names-small}
use Rattle.marks.proofs.Marking.{names_marked}
use Rattle.marks.proofs.mark_names.Goals as goal

pub overflow_add-result : goal.overflow_add-result
overflow_add-result c = record { fits = omega (arith, names-small c.requires.2 c.requires.1, c.requires.3) }

pub returns : goal.returns
returns c = (refl, names_marked c.args.size c.args.off c.args.step c.args.names c.args.pointer c.line_fields-a.ensures c.mark_first.ensures)

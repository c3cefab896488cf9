use mathlib.Core.Path.{◌≡◌, refl}
use native.Mathlib.Omega.{arith}
use Rattle.field_list.specs.Fields.{line_fields_from, line_fields}
use Rattle.field_list.proofs.Laws.{line_set, next-offset, next_low}
use Rattle.field_list.proofs.line_fields.Goals as goal

pub loop-i-init : goal.loop-i-init
unfolding line_fields_from line_fields
loop-i-init c = (omega arith, refl)

pub offset_bounds-a-i : goal.offset_bounds-a-i
offset_bounds-a-i c = record { fits = omega (arith, c.loop-i-test.true, c.requires.0) }

pub bounds-a-i : goal.bounds-a-i
bounds-a-i c = omega (arith, c.loop-i-test.true, c.requires.0)

pub overflow_add-at : goal.overflow_add-at
overflow_add-at c = record { fits = omega (arith, next_low c.args.size c.args.off c.loop-i.at c.loop-i.i c.args.count c.loop-i.invariant.0 c.loop-i-test.true, c.requires.1) }

pub loop-i-preserved : goal.loop-i-preserved
loop-i-preserved c = (
  next-offset c.args.size c.args.off c.loop-i.at c.loop-i.i c.loop-i.invariant.0,
  rw c.loop-i.invariant.1 (line_set c.args.size c.args.pointer c.args.off c.loop-i.at c.loop-i.i (bounds-a-i c) c.loop-i.invariant.0),
)

pub returns : goal.returns
returns c = let e : c.loop-i.i ≡ c.args.count = omega arith in rw e at c.loop-i.invariant.1

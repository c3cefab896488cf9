-- `sizes::place::place_line` meets its contract.
use Rattle.sizes.proofs.Places.{names-small, list-furthest, line-placed}
use Rattle.field_list.proofs.Laws.{furthest-low}
use mathlib.Core.Path.{refl}
use Prim.Native.Nat.{◌+◌, ◌*◌, ◌<◌, ◌^◌}
use native.Mathlib.Omega.{arith}
use Rattle.sizes.proofs.place.place_line.Goals as goal

pub line_fields-fields-requires : goal.line_fields-fields-requires
line_fields-fields-requires c = (c.requires.3, omega (arith, names-small c.requires.3 c.requires.1, c.align_up-at.ensures.1, c.requires.0, c.requires.2))

pub overflow_mul-result : goal.overflow_mul-result
overflow_mul-result c = record { fits = omega (arith, names-small c.requires.3 c.requires.1) }

pub overflow_add-result : goal.overflow_add-result
overflow_add-result c = record { fits = omega (arith, names-small c.requires.3 c.requires.1, c.align_up-at.ensures.1, c.requires.0, c.requires.2) }

pub overflow_cast-result-2 : goal.overflow_cast-result-2
overflow_cast-result-2 c =
    let e = list-furthest c.args.x.size c.align_up-at.result c.args.names c.args.p.furthest c.args.pointer c.line_fields-fields.ensures (rw c.from.ensures at c.furthest_of-furthest.ensures) in
    let low : c.args.p.furthest < 2 ^ 32 = omega arith in
    let end : c.align_up-at.result + c.args.names * c.args.x.size < 2 ^ 32 = omega (arith, names-small c.requires.3 c.requires.1, c.align_up-at.ensures.1, c.requires.0, c.requires.2) in
    record { fits = rw e (furthest-low (2 ^ 32) c.align_up-at.result c.args.x.size c.args.pointer c.args.names c.args.p.furthest low end) }

pub returns : goal.returns
returns c = (line-placed c.args.p _ c.args.x.size c.args.x.align c.args.names c.align_up-at.result c.args.pointer c.align_up-at.ensures.0 refl (list-furthest c.args.x.size c.align_up-at.result c.args.names c.args.p.furthest c.args.pointer c.line_fields-fields.ensures (rw c.from.ensures at c.furthest_of-furthest.ensures)), omega (arith, names-small c.requires.3 c.requires.1, c.align_up-at.ensures.1, c.requires.2))

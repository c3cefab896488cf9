use Rattle.shapes.proofs.Sizes.{furthest-low, adt-size}
use Rattle.sizes.specs.Places.{common_fields}
use mathlib.Core.Path.{refl}
use native.Mathlib.Omega.{arith}
use Rattle.shapes.proofs.adt_size.Goals as goal

pub rounded_size-requires : goal.rounded_size-requires
rounded_size-requires c = omega (arith, furthest-low (common_fields c.args.sheet.now c.args.r) _ c.place_common-q.result c.place_common-q.ensures.0 (omega arith), c.place_common-q.ensures.1)

pub returns : goal.returns
returns c = adt-size c.args.sheet.now c.args.r c.rounded_size.result _ c.place_common-q.result c.requires.0 c.requires.1 refl refl c.place_common-q.ensures.0 c.rounded_size.ensures

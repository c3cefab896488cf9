use Rattle.shapes.proofs.Sizes.{furthest-low}
use Rattle.sizes.specs.Places.{case_fields}
use native.Mathlib.Omega.{arith}
use Rattle.shapes.proofs.case_size.Goals as goal

pub rounded_size-requires : goal.rounded_size-requires
rounded_size-requires c = omega (arith, furthest-low (case_fields c.args.sheet.now c.args.k) c.args.p c.place_case-v.result c.place_case-v.ensures.0 c.requires.1, c.place_case-v.ensures.1)

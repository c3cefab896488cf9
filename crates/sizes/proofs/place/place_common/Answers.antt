use native.Mathlib.Omega.{arith}
use Rattle.sizes.proofs.place.place_common.Goals as goal

pub place_fields-requires : goal.place_fields-requires
place_fields-requires c = (c.common_refs-f.ensures.0, omega (arith, c.requires.1))

pub returns : goal.returns
returns c = (rw c.common_refs-f.ensures.1 at c.place_fields.ensures.0, omega (arith, c.place_fields.ensures.1, c.requires.1))

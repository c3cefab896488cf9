use Rattle.maps.proofs.Maps.{map-fits}
use native.Mathlib.Omega.{arith}
use Rattle.shape_rows.proofs.print_row.Goals as goal

pub slice_bounds-put_hex-end : goal.slice_bounds-put_hex-end
slice_bounds-put_hex-end g c = omega (arith, map-fits c.requires)

use Prim.Native.Nat.{ℕ, ◌+◌, ◌-◌}
use Rattle.write.proofs.Writes.{writes_as}
use Rattle.semantics.specs.Text.{hex_of}
use mathlib.Core.List.{◌∷◌, List}
use Rattle.type_row.proofs.Rows.{map-part, type_row}
use native.Mathlib.Omega.{arith}
use mathlib.Core.Path.{refl, ap}
use Rattle.maps.specs.Maps.{map_in}
use Rattle.maps.proofs.Maps.{map-fits}
use Rattle.type_row.proofs.put_type.Goals as goal

pub slice_bounds-comma_hex-end : goal.slice_bounds-comma_hex-end
slice_bounds-comma_hex-end c = omega (arith, map-fits c.requires.0, c.requires.0.room)

pub returns : goal.returns
returns c = (λ offs x. type_row c.args.id c.args.size (map_in c.args.work.now c.args.size) offs x.bytes c.map_ones.result c.map_ones.ensures c.put_part.ensures c.comma_nat.ensures c.comma_nat-2.ensures c.comma_nat-3.ensures (writes_as (ap (λ (m : List ℕ). 44 ∷ hex_of m) (map-part c.args.work.now c.args.size (49152 + c.map_bytes-end.result - 49152) (omega arith))) c.comma_hex.ensures) c.lf.ensures, refl)

use Rattle.std.proofs.Common.{rules, ◌≤◌, length}
use native.Mathlib.Omega.{arith}
use Rattle.record_rows.proofs.Entries.{shape-text}
use Rattle.records.specs.Log.{recorded_at}
use Rattle.maps.proofs.Maps.{map-fits}
use Rattle.write.proofs.Writes.{writes_as, writes_then}
use mathlib.Core.Path.{refl}
use Rattle.record_rows.proofs.put_shape.Goals as goal

pub slice_bounds-comma_hex-end : goal.slice_bounds-comma_hex-end
slice_bounds-comma_hex-end c = let room : 62464 ≤ length c.args.work.now = search rules in omega (arith, map-fits (record { room = room; small = c.entry_size-size.ensures.1 }), c.map_entry.ensures.kept.long)

pub returns : goal.returns
returns c = record { wrote = writes_as (shape-text (recorded_at c.args.sheet.now c.args.work.now c.args.i).shape _ c.entry_size-size.result c.map_bytes-end.result _ c.entry_size-size.ensures.0 c.map_entry.ensures.map c.map_bytes-end.ensures.0 refl) (writes_then (writes_then c.comma_nat.ensures c.comma_hex.ensures) c.lf.ensures); kept = c.map_entry.ensures.kept }

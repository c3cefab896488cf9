use mathlib.Core.Path.{refl}
use Rattle.type_lines.specs.Shapes.{written_shape}
use Rattle.type_row.proofs.Maps.{shape_is, types-as}
use Rattle.type_row.proofs.put_line.Goals as goal

pub returns : goal.returns
returns c = types-as (shape_is (written_shape c.args.sheet.now c.args.i) c.size_at-size.result (written_shape c.args.sheet.now c.args.i).pointers c.size_at-size.ensures.0 refl) (record { wrote = c.put_type.ensures.0 _ c.map_line.ensures.map; id = c.put_type.ensures.1; kept = c.map_line.ensures.kept })

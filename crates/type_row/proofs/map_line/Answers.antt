use Rattle.maps.proofs.Maps.{made_then, marks-none}
use Rattle.type_lines.proofs.Shapes.{offset_near}
use Rattle.type_lines.specs.Shapes.{written_shape}
use Rattle.type_row.proofs.Maps.{offsets-next, offsets-all}
use native.Mathlib.Omega.{arith}
use Rattle.type_row.proofs.Maps.{offsets-next}
use Rattle.type_row.proofs.map_line.Goals as goal

pub loop-j-init : goal.loop-j-init
loop-j-init c = (omega arith, c.offset_count-count.ensures.0, marks-none)

pub loop-j-preserved : goal.loop-j-preserved
loop-j-preserved c = (omega (arith, c.loop-j-test.true), c.loop-j.invariant.1, offsets-next (written_shape c.args.sheet.now c.args.i).pointers c.loop-j.j (omega (arith, c.loop-j-test.true, c.loop-j.invariant.1)) c.loop-j.invariant.2 (c.mark_raised.ensures _ (offset_near c.args.sheet.now c.args.i c.requires.0 c.loop-j.j (omega (arith, c.loop-j-test.true, c.loop-j.invariant.1))) c.offset_at.ensures.0))

pub returns : goal.returns
returns c = made_then c.requires.1 c.clear_map.ensures (offsets-all (written_shape c.args.sheet.now c.args.i).pointers c.loop-j.j (omega (arith, c.loop-j-test.false, c.loop-j.invariant.1)) c.loop-j.invariant.2)

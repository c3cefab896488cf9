use Rattle.std.proofs.Common.{◌≡◌, ◌<◌, arith}
use Rattle.lines.specs.Lines.{lines_in, nodes_in}
use Rattle.source.specs.Walk.{declared_to, declares_at}
use Rattle.type_lines.specs.Shapes.{frames_to}
use Rattle.type_lines.proofs.Frames.{frames-more, frames-few, frames-all}
use Rattle.type_rows.proofs.Wrotes.{types-none, types-then}
use Rattle.type_rows.proofs.frame_rows.Goals as goal

pub loop-i-init : goal.loop-i-init
unfolding declared_to
loop-i-init c = (omega arith, types-none)

pub next_frame-next-requires : goal.next_frame-next-requires
next_frame-next-requires c = (c.requires.0, omega (arith, c.count-i-end.ensures.0, c.loop-i-test.true), omega (arith, c.requires.1, c.loop-i.invariant.1.id, frames-few c.args.sheet.now c.requires.0 c.loop-i.i c.loop-i.invariant.0))

pub loop-i-preserved : goal.loop-i-preserved
loop-i-preserved c = let low : c.loop-i.i < lines_in c.args.sheet.now = omega (arith, c.count-i-end.ensures.0, c.loop-i-test.true) in (omega (arith, low), rw (frames-more c.args.sheet.now c.requires.0 c.loop-i.i low) (types-then (frames_to c.args.sheet.now c.loop-i.i) (declares_at (nodes_in c.args.sheet.now) c.loop-i.i).frames c.loop-i.invariant.1 c.next_frame-next.ensures))

pub returns : goal.returns
returns c = let e : c.loop-i.i ≡ lines_in c.args.sheet.now = omega (arith, c.count-i-end.ensures.0, c.loop-i-test.false, c.loop-i.invariant.0) in rw (← frames-all c.args.sheet.now c.requires.0, ← e) c.loop-i.invariant.1

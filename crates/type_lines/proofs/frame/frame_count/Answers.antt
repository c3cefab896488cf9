use Rattle.lines.specs.Lines.{lines_in}
use native.Mathlib.Omega.{arith}
use Prim.Native.Nat.{◌+◌}
use Prim.Native.Nat.{ℕ}
use lib.ListN.{length}
use mathlib.Core.Path.{◌≡◌, refl, ◌∙◌, ap}
use Rattle.source.specs.Walk.{declared_to}
use Rattle.type_lines.specs.Shapes.{frames_to}
use Rattle.type_lines.proofs.Frames.{frames-all, frames-few, frames-step}
use Rattle.type_lines.proofs.frame.frame_count.Goals as goal

pub loop-i-init : goal.loop-i-init
unfolding declared_to
loop-i-init c = (omega arith, refl)

pub overflow_add-frames : goal.overflow_add-frames
overflow_add-frames c = record { fits = omega (arith, c.loop-i.invariant.1, c.frames_of-frames.ensures, frames-step c.args.sheet.now c.requires c.loop-i.i (omega (arith, c.count-i-end.ensures.0, c.loop-i-test.true)), frames-few c.args.sheet.now c.requires (c.loop-i.i + 1) (omega (arith, c.count-i-end.ensures.0, c.loop-i-test.true))) }

pub loop-i-preserved : goal.loop-i-preserved
loop-i-preserved c = (omega (arith, c.count-i-end.ensures.0, c.loop-i-test.true), omega (arith, c.loop-i.invariant.1, c.frames_of-frames.ensures, frames-step c.args.sheet.now c.requires c.loop-i.i (omega (arith, c.count-i-end.ensures.0, c.loop-i-test.true))))

pub returns : goal.returns
returns c = let e : c.loop-i.i ≡ lines_in c.args.sheet.now = omega (arith, c.loop-i.invariant.0, c.count-i-end.ensures.0, c.loop-i-test.false) in let g = c.loop-i.invariant.1 ∙ ap (λ (j : ℕ). length (frames_to c.args.sheet.now j)) e in (g ∙ ap length (frames-all c.args.sheet.now c.requires), omega (arith, g, frames-few c.args.sheet.now c.requires (lines_in c.args.sheet.now) (omega arith)))

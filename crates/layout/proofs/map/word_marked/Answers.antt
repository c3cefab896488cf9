use mathlib.Core.Path.{refl, sym, ◌∙◌}
use Prim.Native.Nat.{◌<◌, ◌^◌}
use native.Mathlib.Omega.{arith}
use lib.IntN.{pos}
use lib.ListN.{get_or}
use lib.Signed.{mag}
use Rattle.layout.proofs.Marks.{turn, at-end}
use Rattle.layout.proofs.map.word_marked.Goals as goal

pub loop-off-init : goal.loop-off-init
loop-off-init c = refl

-- the word is marked where this offset marks it or a later one does
pub returns-then-marks_word : goal.returns-then-marks_word
returns-then-marks_word c =
    let f : mag (get_or c.args.offsets.now c.loop-off.off-index (pos 0)) < 2 ^ 31 = omega arith in
    let seen = c.loop-off.invariant ∙ turn _ _ c.loop-off.off-index _ _ c.loop-off-test.true f c.marks_word.ensures in
    sym (rw c.if-marks_word.true at seen)

pub loop-off-preserved : goal.loop-off-preserved
loop-off-preserved c =
    let f : mag (get_or c.args.offsets.now c.loop-off.off-index (pos 0)) < 2 ^ 31 = omega arith in
    let seen = c.loop-off.invariant ∙ turn _ _ c.loop-off.off-index _ _ c.loop-off-test.true f c.marks_word.ensures in
    rw c.if-marks_word.false at seen

pub returns : goal.returns
returns c = sym (c.loop-off.invariant ∙ at-end _ _ c.loop-off.off-index _ c.loop-off-test.false)

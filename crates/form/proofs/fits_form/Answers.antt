use native.Mathlib.Omega.{arith}
use Prim.Native.Nat.{ℕ}
use mathlib.Core.Path.{◌∙◌, sym, ap}
use lib.Dec.{eqb}
use Rattle.form.specs.Letters.{letters_fit, letters_from}
use Rattle.form.proofs.Table.{codes-short}
use Rattle.form.proofs.Laws.{fits-start, fits-bad, fits-turn, fits-end, not-blank}
use Rattle.semantics.specs.Form.{fields_from}
use Rattle.form.proofs.fits_form.Goals as goal

pub loop-w-init : goal.loop-w-init
loop-w-init c = fits-start c.args.f c.args.l.now c.requires c.begin-w.result c.begin-w.ensures

pub letter-x-requires : goal.letter-x-requires
letter-x-requires c = c.loop-w.invariant.0

pub returns-then-not-is_good : goal.returns-then-not-is_good
returns-then-not-is_good c = sym (c.loop-w.invariant.1 ∙ fits-bad c.args.l.now c.loop-w.w.at c.find-e.result c.loop-w-test.true c.find-e.ensures.0 c.letter-x.result _ c.letter-x.ensures (sym c.is_good.ensures ∙ c.if-not-is_good.true))

pub step-w-requires : goal.step-w-requires
step-w-requires c = omega (arith, codes-short c.args.f c.loop-w.invariant.0.form, c.loop-w.invariant.0.within)

pub loop-w-smaller : goal.loop-w-smaller
loop-w-smaller c = omega (arith, c.step-w.ensures.1, c.find-e.ensures, c.loop-w-test.true)

pub loop-w-preserved : goal.loop-w-preserved
loop-w-preserved c =
    let good = sym c.is_good.ensures ∙ c.if-not-is_good.false in
    let q = c.step-w.ensures.0 c.args.f c.loop-w.invariant.0 c.letter-x.ensures (not-blank c.letter-x.result _ good) in
    (q.0, c.loop-w.invariant.1 ∙ fits-turn c.args.l.now c.loop-w.w.at c.find-e.result c.loop-w-test.true c.find-e.ensures.0 c.letter-x.result _ c.letter-x.ensures c.number.result _ good c.number.ensures.0 q.1 ∙ ap (λ (j : ℕ). letters_fit (letters_from c.args.f c.step-w.result) (fields_from j c.args.l.now)) (sym c.step-w.ensures.1))

pub letter-requires : goal.letter-requires
letter-requires c = c.loop-w.invariant.0

pub returns : goal.returns
returns c = ap (λ (x : ℕ). eqb x 32) c.letter.ensures ∙ sym (c.loop-w.invariant.1 ∙ fits-end c.loop-w.w.at c.args.l.now _ c.loop-w-test.false)

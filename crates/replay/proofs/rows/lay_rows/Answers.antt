use Rattle.stored.specs.Laying.{Laying}
use Rattle.std.specs.Prelude.{Option}
use mathlib.Core.Path.{ap}
use native.Mathlib.Omega.{arith}
use Rattle.replay.proofs.Loops.{text-turn, text-full, text-end}
use Rattle.replay.specs.Rows.{element_size_at, laid_text}
use mathlib.Core.Path.{◌∙◌, sym, refl}
use Rattle.replay.proofs.rows.lay_rows.Goals as goal

pub loop-at-init : goal.loop-at-init
loop-at-init c =
    let a = c.args in
    let f = c.first-s in
    (omega (arith, f.ensures.start, f.ensures.part), omega (arith, f.ensures.part), omega (arith, f.ensures.item), refl, refl, ap (λ (m : Option Laying). laid_text (element_size_at a.work.now) a.listing.now m) (sym (f.ensures.is a.image.now a.area.now refl)))

pub returns-then-s : goal.returns-then-s
returns-then-s c =
    let a = c.args in
    let l = c.loop-at in
    sym (l.invariant.5 ∙ text-full (element_size_at a.work.now) a.listing.now l.at l.s l.image l.area c.if-s.true)

pub step-s-requires : goal.step-s-requires
step-s-requires c =
    let good = c.well_formed in
    let l = c.loop-at in
    let if1 = c.if-s in
    record { fitted = if1.false; low = l.invariant.0; high = l.invariant.1; item = omega (arith, l.invariant.2, good) }

pub loop-at-preserved : goal.loop-at-preserved
loop-at-preserved c =
    let a = c.args in
    let l = c.loop-at in
    let t = c.loop-at-test in
    let if1 = c.if-s in
    let e = c.find-e in
    let st = c.step-s in
    (st.ensures.low, st.ensures.high, omega (arith, st.ensures.item, l.invariant.2, e.ensures.1), st.auto.image ∙ l.invariant.3, st.auto.area ∙ l.invariant.4, l.invariant.5 ∙ text-turn (element_size_at a.work.now) a.listing.now l.at e.result l.s l.image l.area t.true e.ensures.0 if1.false st.ensures)

pub returns : goal.returns
returns c =
    let a = c.args in
    let l = c.loop-at in
    sym (l.invariant.5 ∙ text-end (element_size_at a.work.now) a.listing.now l.at _ c.loop-at-test.false)

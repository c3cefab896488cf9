use native.Mathlib.Omega.{arith}
use Prim.Native.Nat.{ℕ, ◌+◌}
use mathlib.Core.Path.{◌≡◌, ◌∙◌, ap, sym}
use lib.ListN.{length}
use native.Mathlib.Nat.{zero-add, sub-zero}
use borrow.Author.Rules.{rules}
use Rattle.text.proofs.Parts.{skip-turn, skip_stop, skip-end}
use Rattle.text.proofs.skip.Goals as goal

pub loop-k-init : goal.loop-k-init
loop-k-init c = (search rules, simp (sub-zero, zero-add))

pub returns-else-e-s : goal.returns-else-e-s
returns-else-e-s c =
    let l = c.loop-k in
    let a = c.args in
    let q : c.find-e.result ≡ length a.s.now = omega (arith, c.if-e-s.false, c.find-e.ensures.2) in
    ap (λ (j : ℕ). j + 1) (sym q) ∙ sym (l.invariant.1 ∙ skip_stop a.b a.n l._k l.at a.s.now c.loop-k-test.true l.invariant.0 c.find-e.ensures.0 q)

pub loop-k-preserved : goal.loop-k-preserved
loop-k-preserved c =
    let l = c.loop-k in
    let a = c.args in
    (search rules, l.invariant.1 ∙ skip-turn a.b a.n l._k l.at a.s.now c.loop-k-test.true l.invariant.0 c.find-e.ensures.0 (λ q. omega (arith, q, c.if-e-s.true)))

pub returns : goal.returns
returns c =
    let a = c.args in
    let l = c.loop-k in
    skip-end a.b a.n l._k l.at a.s.now l.invariant.1 (omega arith) c.loop-k-test.false

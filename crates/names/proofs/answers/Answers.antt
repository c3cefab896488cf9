-- `names::answers` meets its contract.
use Prim.Native.Nat.{suc, ◌-◌}
use native.Mathlib.Omega.{arith}
use mathlib.Core.Path.{◌≡◌, sym, ap, ◌∙◌}
use borrow.Author.Tests.{ne_eqb}
use Rattle.implement.specs.Modules.{line_number}
use Rattle.names.proofs.Laws as Laws
use Rattle.names.specs.Table.{key_of, is_within}
use Rattle.names.proofs.answers.Goals as goal

pub returns-then-not-has_name : goal.returns-then-not-has_name
returns-then-not-has_name c =
    let a = c.args in
    Laws.key-other a.sheet.now a.work.now a.i a.d (key_of a.key) c.has_name.ensures c.requires.0 c.if-not-has_name.true c.requires.1

pub returns-in-None-default : goal.returns-in-None-default
unfolding is_within
returns-in-None-default c =
    let a = c.args in
    Laws.key-within a.sheet.now a.work.now a.i a.d (key_of a.key) c.has_name.ensures c.if-not-has_name.false c.module_line_of-k.ensures (rw c.in-None-default.is-0 c.is_own.ensures)

pub returns-in-Some-None : goal.returns-in-Some-None
unfolding is_within
returns-in-Some-None c =
    let a = c.args in
    let z = ap line_number (sym c.in-Some-None.is-1) ∙ c.module_line_of-k.ensures in
    Laws.key-within a.sheet.now a.work.now a.i a.d (key_of a.key) c.has_name.ensures c.if-not-has_name.false z (rw c.in-Some-None.is-0)

pub returns-in-Some-Some : goal.returns-in-Some-Some
unfolding is_within
returns-in-Some-Some c =
    let a = c.args in
    let k = c.in-Some-Some.k in
    let z = ap line_number (sym c.in-Some-Some.is-1) ∙ c.module_line_of-k.ensures in
    let e : suc k - 1 ≡ k = omega arith in
    Laws.key-within a.sheet.now a.work.now a.i a.d (key_of a.key) c.has_name.ensures c.if-not-has_name.false z
    (rw (c.in-Some-Some.is-0, ne_eqb (suc k) 0 (λ q. omega arith), e) c.first_is.ensures)

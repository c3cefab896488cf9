-- A check that goes over the lines: what it answers is the refusal at the first line that breaks the rule.
use mathlib.Core.Path.{◌≡◌, refl}
use mathlib.Core.Bool.{Bool, true, false, cond}
use Prim.Native.Nat.{ℕ, ◌+◌, ◌<◌}
use native.Mathlib.Omega.{arith}
use lib.Dec.{eqb}
use borrow.Author.Tests.{ne_eqb, eqb-true}
use Rattle.std.specs.Prelude.{Ok, Err}
use Rattle.semantics.proofs.Common.{never}
use Rattle.answers.specs.declared.Refusal.{Refusal}
use Rattle.answers.specs.Answers.{first_line}

pub at-line : (at : ℕ → Refusal) {j k : ℕ} → 0 < j → j ≡ k → Err (at j) ≡ first_line at k
at-line at {j} {k} h e = rw (← e, ne_eqb j 0 (λ q. omega arith)) refl

pub at-first : (at : ℕ → Refusal) (i : ℕ) {k : ℕ} → i + 1 ≡ k → Err (at (i + 1)) ≡ first_line at k
at-first at i e = at-line at (omega arith) e

pub no-first : (at : ℕ → Refusal) {k : ℕ} → 0 ≡ k → Ok (tt {0}) ≡ first_line at k
no-first at {k} e = rw (← e) refl

-- for callers: Ok says that there is none
pub none-bad : (at : ℕ → Refusal) {u : Unit {0}} (k : ℕ) → Ok u ≡ first_line at k → k ≡ 0
none-bad at {u} k = go (eqb k 0) refl
  where
    go : (b : Bool) → eqb k 0 ≡ b → Ok u ≡ cond b (Ok (tt {0})) (Err (at k)) → k ≡ 0
    go true q e = eqb-true k 0 q
    go false q e = never cc

-- Where the constants of a group stand: those of the module of line k behind that line, and before another module opens or it ends.
use mathlib.Core.Path.{◌≡◌, refl, sym, ◌∙◌}
use mathlib.Core.Bool.{Bool, true, false}
use mathlib.Core.List.{[]}
use Prim.Native.Nat.{ℕ, zero, suc, ◌+◌, ◌-◌, ◌≤◌, ◌<◌}
use native.Mathlib.Omega.{arith}
use lib.Dec.{eqb}
use borrow.Author.Tests.{eqb-true, eqb-false}
use Rattle.semantics.specs.Text.{Bytes}
use Rattle.semantics.specs.Form.{letter}
use Rattle.lines.specs.Lines.{lines_in, read_at, nodes_in}
use Rattle.implement.specs.Modules.{module_at}
use Rattle.checks.specs.Checks.{Checked}
use Rattle.source.specs.Walk.{open_at}
use Rattle.consts.specs.Passes.{group_from}
use Rattle.consts.proofs.Passes.{open-mod, open-end, open-other, group-other, group-out, group-end}

-- the module of line o is open before line i, and P holds of o
record OpenBy (s : Bytes) (i : ℕ) (P : ℕ → Type 0) : Type 0 where
  line : ℕ
  within : open_at (nodes_in s) i ≡ module_at s line
  holds : P line

module _ (s : Bytes) (c : Checked s) where
  -- what is open behind line i: that line's module, none, or what was open before
  open_next : (P : ℕ → Type 0) (i : ℕ) → i < lines_in s → P (suc i) → P 0 → OpenBy s i P → OpenBy s (suc i) P
  open_next P i h own none o = go (eqb (letter (read_at s i).form.kind) 77) refl (eqb (letter (read_at s i).form.kind) 79) refl
    where
      go : (a : Bool) → eqb (letter (read_at s i).form.kind) 77 ≡ a → (b : Bool) → eqb (letter (read_at s i).form.kind) 79 ≡ b → OpenBy s (suc i) P
      go true p b q = record { line = suc i; within = open-mod s c i h (eqb-true (letter (read_at s i).form.kind) 77 p); holds = own }
      go false p true q = record { line = 0; within = open-end s c i h (eqb-true (letter (read_at s i).form.kind) 79 q); holds = none }
      go false p false q = record {
        line = o.line;
        within = open-other s c i h (eqb-false (letter (read_at s i).form.kind) 77 p) (eqb-false (letter (read_at s i).form.kind) 79 q) ∙ o.within;
        holds = o.holds;
      }

  -- a line in another module is none of the group's
  group-past : (k i : ℕ) → i < lines_in s → OpenBy s i (λ o. o ≡ k → ⊥) → group_from s k i ≡ group_from s k (suc i)
  group-past k i h o = go (eqb (letter (read_at s i).form.kind) 68) refl
    where
      go : (b : Bool) → eqb (letter (read_at s i).form.kind) 68 ≡ b → group_from s k i ≡ group_from s k (suc i)
      go true p = group-out s c i h o.line o.within k (eqb-true (letter (read_at s i).form.kind) 68 p) o.holds
      go false p = group-other s c i h k (eqb-false (letter (read_at s i).form.kind) 68 p)

  open-low : (i : ℕ) → i ≤ lines_in s → OpenBy s i (λ o. o ≤ i)
  unfolding open_at module_at
  open-low zero h = record { line = 0; within = refl; holds = omega arith }
  open-low (suc i) h =
      let o = open-low i (omega arith) in
      open_next (λ o. o ≤ suc i) i (omega arith) (omega arith) (omega arith) (record { line = o.line; within = o.within; holds = omega (arith, o.holds) })

  group-before : (k i : ℕ) → i ≤ k → k ≤ lines_in s → group_from s k 0 ≡ group_from s k i
  group-before k zero h l = refl
  group-before k (suc i) h l =
      let o = open-low i (omega arith) in
      group-before k i (omega arith) l ∙ group-past k i (omega arith) (record { line = o.line; within = o.within; holds = λ e. omega (arith, o.holds) })

  -- the group of the module of line k begins behind that line
  pub group-start : (k : ℕ) → k ≤ lines_in s → group_from s k k ≡ group_from s k 0
  group-start k l = sym (group-before k k (omega arith) l)

  left-rest : (k d i : ℕ) → i + d ≡ lines_in s → k ≤ i → (k ≡ 0 → ⊥) → OpenBy s i (λ o. o ≡ k → ⊥) → group_from s k i ≡ []
  left-rest k zero i e l z o = group-end s c k i (omega arith)
  left-rest k (suc d) i e l z o =
      group-past k i (omega arith) o
      ∙ left-rest k d (suc i) (omega arith) (omega arith) z (open_next (λ w. w ≡ k → ⊥) i (omega arith) (λ q. omega arith) (λ q. z (sym q)) o)

  -- and ends where that module is left
  pub group-left : (k i w : ℕ) → i ≤ lines_in s → k ≤ i → (k ≡ 0 → ⊥) → open_at (nodes_in s) i ≡ module_at s w → (w ≡ k → ⊥) → group_from s k i ≡ []
  group-left k i w h l z e q = go (lines_in s - i) (omega arith)
    where
      go : (d : ℕ) → i + d ≡ lines_in s → group_from s k i ≡ []
      go d y = left-rest k d i y l z (record { line = w; within = e; holds = q })

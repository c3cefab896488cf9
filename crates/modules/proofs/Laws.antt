-- Laws of modules.
use mathlib.Core.Path.{◌≡◌, refl, sym, ap, ◌∙◌}
use mathlib.Core.Bool.{Bool, true, false, cond}
use mathlib.Core.List.{List, [], ◌∷◌}
use Prim.Native.Nat.{ℕ, zero, suc, ◌+◌, ◌-◌, ◌<◌}
use native.Mathlib.Omega.{arith}
use native.Mathlib.Numerals.{add-one}
use lib.ListN.{drop, drop_of_length-le}
use lib.Seq.{drop-cons}
use Rattle.semantics.specs.Form as Form
use Rattle.semantics.specs.Refusal.{no_read, bad_module_from}
use Rattle.semantics.proofs.Common.{never}
use Rattle.form.specs.Table.{kind_at}
use Rattle.lines.specs.Lines.{lines_in, reads_in, read_at, form_at, Whole}
use Rattle.lines.proofs.Line.{line-count, kind-is}
use Rattle.modules.specs.Modules.{wrong, opens}

module-cons : (k : ℕ) (b : Bool) (l : Form.Read) (ls : List Form.Read)
    → bad_module_from k b (l ∷ ls) ≡ cond (wrong (Form.letter l.form.kind) b) k (bad_module_from (suc k) (opens (Form.letter l.form.kind) b) ls)
unfolding bad_module_from wrong opens
module-cons k b l ls = refl

module-nil : (k : ℕ) (b : Bool) → bad_module_from k b [] ≡ cond b (k - 1) 0
unfolding bad_module_from
module-nil k b = refl

-- the first i lines are good, and a module is open behind them, or not
pub record Walked (s : List ℕ) (i : ℕ) (b : Bool) : Type 0 where
  pub same : bad_module_from 1 false (reads_in s) ≡ bad_module_from (i + 1) b (drop i (reads_in s))
  pub late : i ≡ 0 → b ≡ false

pub walked_none : (s : List ℕ) → Walked s 0 false
walked_none s = record { same = refl; late = λ _. refl }

pub open-late : {s : List ℕ} {i : ℕ} {b : Bool} → Walked s i b → b ≡ true → 0 < i
open-late {s} {i} {b} g e = go i g.late
  where
    go : (j : ℕ) → (j ≡ 0 → b ≡ false) → 0 < j
    go zero h = never (sym (h refl) ∙ e)
    go (suc j) h = omega arith

module _ (s : List ℕ) (i : ℕ) (w : Whole s) (b : Bool) (g : Walked s i b) where
  module _ (h : i < lines_in s) (k : ℕ) (hk : k ≡ kind_at (form_at s i)) where
    opened : bad_module_from 1 false (reads_in s) ≡ cond (wrong k b) (i + 1) (bad_module_from (i + 1 + 1) (opens k b) (drop (i + 1) (reads_in s)))
    opened =
        g.same
        ∙ ap (bad_module_from (i + 1) b) (drop-cons (reads_in s) i no_read (omega (arith, line-count s)))
        ∙ module-cons (i + 1) b (read_at s i) (drop (suc i) (reads_in s))
        ∙ rw (kind-is s w i h, ← hk, ← add-one (i + 1), ← add-one i)

    pub module-bad : {r : Bool} → r ≡ wrong k b → r ≡ true → i + 1 ≡ bad_module_from 1 false (reads_in s)
    module-bad p e = sym (opened ∙ rw (sym p ∙ e))

    pub module-next : {r c : Bool} → r ≡ wrong k b → r ≡ false → c ≡ opens k b → Walked s (i + 1) c
    module-next p e q = record { same = opened ∙ rw (sym p ∙ e, ← q); late = λ z. absurd (omega (arith, z)) }

  at-end : i ≡ lines_in s → bad_module_from 1 false (reads_in s) ≡ cond b (i + 1 - 1) 0
  at-end h = g.same ∙ rw (drop_of_length-le (reads_in s) {i = i} (omega (arith, line-count s))) (module-nil (i + 1) b)

  pub module-open : i ≡ lines_in s → b ≡ true → lines_in s ≡ bad_module_from 1 false (reads_in s)
  module-open h e = sym (at-end h ∙ rw e (omega arith))

  pub module-closed : i ≡ lines_in s → b ≡ false → 0 ≡ bad_module_from 1 false (reads_in s)
  module-closed h e = sym (at-end h ∙ rw e)

-- Selectors, one after the other.
use mathlib.Core.Path.{◌≡◌, refl, sym, ap, ◌∙◌, subst}
use mathlib.Core.Bool.{Bool, true, false}
use Prim.Native.Nat.{ℕ, ◌≤◌, ◌<◌}
use native.Mathlib.Omega.{arith}
use lib.IntN.{ℤ}
use mir.Syntax.{w64}
use mir.Val.{SFits}
use mir.Facts.{to_z-of_z}
use Rattle.semantics.specs.Text.{Bytes}
use Rattle.semantics.specs.Tree as Tree
use Rattle.semantics.specs.Fold.{Result, bind}
use Rattle.semantics.specs.Array.{Filled, place_indices}
use Rattle.ints.proofs.Widths.{held}
use Rattle.semantics.proofs.Common.{never}
use Rattle.checks.specs.Checks.{Kept}
use Rattle.placements.specs.declared.Extent.{Extent}
use Rattle.placements.specs.Placements.{element_in, LiteralSoFar, Goes, Step, Places}
use Rattle.placements.proofs.Same.{keeps_then, keeps-kept}
use Rattle.placements.proofs.Fillings.{element-kept, filling-kept}
use Rattle.std.specs.Prelude.{Option, None, Some, Ok, Err}
use Rattle.values.specs.declared.NoValue.TheVariants as N
use Rattle.values.specs.Values.{answered, Outcome}
use Rattle.literals.specs.Literals.{above, Moves, Selects}

-- ---- a literal that has ended

-- whether a literal goes on
abbrev pub goes_on : Outcome (Option Extent) → Bool
goes_on (Ok (Some a)) = true
goes_on (Ok None) = false
goes_on (Err n) = false

pub into-not : (y : Outcome (Option Extent)) → ((a : Extent) → y ≡ Ok (Some a) → ⊥) → goes_on y ≡ false
into-not (Ok (Some a)) h = absurd (h a refl)
into-not (Ok None) h = refl
into-not (Err n) h = refl

-- it stays as it has ended
pub step-ends : (y : Outcome (Option Extent)) → goes_on y ≡ false → (t : Bytes) (a b k : ℕ) (r : Result Filled) (g : Filled → Result Filled) → Step t a k y r → Step t b k y (bind r g)
step-ends (Ok (Some q)) h t a b k r g s = never (sym h)
step-ends (Ok None) h t a b k r g s = rw s
step-ends (Err N.Failed) h t a b k r g s = rw s
step-ends (Err N.LongString) h t a b k r g s = rw s

-- ---- one span

abbrev onto : ℤ → ℤ → Tree.ConstVal → Result Filled → Result Filled
onto low high v r = bind r (place_indices v low high)

module _ (t : Bytes) (e : ℕ) (low high : ℤ) where
  pub moves-into : {x : Option Extent} {a : Extent} → x ≡ Some a → SFits w64 low → SFits w64 high
      → {y : Option Extent} {u : Bytes} → Places t e a (λ (v : Tree.ConstVal). place_indices v (held w64 low) (held w64 high)) y u → Moves t e x (onto low high) y u
  moves-into {x} {a} d fl fh {y} {u} p = record {
    keeps = p.keeps (above e);
    step = λ r one few s. go r one few (subst (λ (z : Option Extent). Goes t (above e) e z r) d s);
  }
    where
      go : (r : Result Filled) → 0 < e → e ≤ 16 → LiteralSoFar t (above e) e a.next a.reach r → Goes u (above e) e y (onto low high (element_in t e) r)
      go r one few g = rw g.result (rw (to_z-of_z fl, to_z-of_z fh) at (p.step (above e) e g.literal one (omega arith) few g.filling))

-- ---- a selector

module _ (t : Bytes) (e : ℕ) {u : Bytes} (c : Kept (above e) t u) where
  goes_kept : (x : Option Extent) (r : Result Filled) → e ≤ 16 → Goes t (above e) e x r → Goes u (above e) e x r
  goes_kept (Some a) r few g = record { literal = g.literal; result = g.result; filling = filling-kept g.filling u few (omega arith) c }
  goes_kept None r few g = g

  value-kept : (x : Option Extent) (r : Result Filled) (a b : ℤ) → e ≤ 16 → Goes t (above e) e x r → bind r (place_indices (element_in u e) a b) ≡ bind r (place_indices (element_in t e) a b)
  value-kept (Some q) r a b few g = rw (element-kept g.filling u few (omega arith) c e (omega arith))
  value-kept None r a b few g = rw g

  module _ (x : Option Extent) {span : Result (ℤ × ℤ)} (z : Outcome (ℤ × ℤ)) (hz : answered z ≡ span) where
    pub selects-span : {a b : ℤ} → z ≡ Ok (a, b) → SFits w64 a → SFits w64 b → {y : Option Extent} {w : Bytes}
        → Moves u e x (λ (v : Tree.ConstVal) (r : Result Filled). bind r (place_indices v (held w64 a) (held w64 b))) y w → Selects t e x span (Ok y) w
    selects-span {a} {b} d fa fb {y} {w} m = record {
      keeps = keeps_then (keeps-kept (omega arith) c) m.keeps;
      result = λ r one few g.
          record { low = a; high = b; is = sym hz ∙ ap answered d; step = subst (λ (q : Result Filled). Goes w (above e) e y q) (value-kept x r a b few g) (rw (to_z-of_z fa, to_z-of_z fb) at (m.step r one few (goes_kept x r few g))) };
    }

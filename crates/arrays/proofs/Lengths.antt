-- What is asked of an integer alone, by what a fold gives.
use mathlib.Core.Path.{◌≡◌, refl, sym, ap, ◌∙◌}
use lib.IntN.{ℤ}
use lib.Ieee.{Float}
use mir.Syntax.{w64}
use mir.Val.{SFits}
use mir.Facts.{to_z-of_z}
use Rattle.semantics.specs.Text.{Bytes}
use Rattle.semantics.specs.Tree as Tree
use Rattle.semantics.specs.Tree.{ElemKind}
use Rattle.semantics.specs.Tree.ConstVal.{v_int, v_real, v_str}
use Rattle.semantics.specs.Fold.{Result, bind}
use Rattle.semantics.specs.Fold.Result.{ok, failed, refuse}
use Rattle.semantics.specs.Array.{as_int}
use Rattle.ints.proofs.Widths.{held}
use Rattle.std.specs.Prelude.{Ok}
use Rattle.values.specs.declared.ConstVal.{ConstVal}
use Rattle.values.specs.Values.{result_in, answered, Outcome}

by_int : {A : Type 0} (f : Tree.ConstVal → Result A) → ((y : Float) → failed ≡ f (v_real y)) → ((y : Bytes) → failed ≡ f (v_str y)) → (r : Result Tree.ConstVal) → bind (bind r as_int) (λ (z : ℤ). f (v_int z)) ≡ bind r f
by_int f a b (ok (v_int z)) = refl
by_int f a b (ok (v_real y)) = a y
by_int f a b (ok (v_str y)) = b y
by_int f a b failed = refl
by_int f a b (refuse r) = refl

-- where i is the integer x, f is of integers alone
module _ (t : Bytes) (x : Outcome ConstVal) (i : Outcome ℤ) (h : answered i ≡ bind (result_in t x) as_int) {A : Type 0} (f : Tree.ConstVal → Result A) (a : (y : Float) → failed ≡ f (v_real y)) (b : (y : Bytes) → failed ≡ f (v_str y)) where
  by_index : {j : Outcome ℤ} → i ≡ j → bind (answered j) (λ (z : ℤ). f (v_int z)) ≡ bind (result_in t x) f
  by_index e = ap (λ (k : Outcome ℤ). bind (answered k) (λ (z : ℤ). f (v_int z))) (sym e) ∙ ap (λ (r : Result ℤ). bind r (λ (z : ℤ). f (v_int z))) h ∙ by_int f a b (result_in t x)

  pub of-int : {z : ℤ} → i ≡ Ok z → SFits w64 z → f (v_int (held w64 z)) ≡ bind (result_in t x) f
  of-int e w = rw (to_z-of_z w) (by_index e)

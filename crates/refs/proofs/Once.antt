-- A sheet without a bad reference: each line is referred to at most once.
use mathlib.Core.Path.{◌≡◌, refl, ◌∙◌}
use mathlib.Core.Bool.{Bool, true, false, cond, not, ◌&&◌, ◌||◌}
use mathlib.Core.List.{List, [], ◌∷◌}
use Rattle.std.specs.Prelude.{Option, None, Some}
use Prim.Native.Nat.{ℕ, suc, ◌+◌, ◌≤◌, ◌<◌}
use native.Mathlib.Omega.{arith}
use lib.Dec.{ltb, eqb}
use borrow.Author.Tests.{ne_eqb, eqb-true, not-true}
use Rattle.semantics.specs.Text.{any}
use Rattle.semantics.specs.Form.{Read, letter}
use Rattle.semantics.specs.Refusal.{Ref, line_at, refs_of, good_ref, use_all, bad_ref_from}
use Rattle.semantics.proofs.Common.{never, both}
use Rattle.refs.specs.Refs.{as_bit, uses_of, uses_in}

module _ (ls : List Read) (r : ℕ) (pos : 0 < r) where
  -- a good reference to r is the first
  good-first : (k : ℕ) (us : List ℕ) (x : Ref) → r ≡ x.line → good_ref ls k us x ≡ true → any (eqb r) us ≡ false
  good-first k us x e h =
      let w : ltb x.line k && eqb (letter (line_at ls x.line).form.kind) x.kind && not (any (eqb x.line) us) ≡ true = rw (ne_eqb x.line 0 (λ z. omega arith)) at h in
      rw e (not-true (any (eqb x.line) us) (both (ltb x.line k && eqb (letter (line_at ls x.line).form.kind) x.kind) (not (any (eqb x.line) us)) w).1)

  one_more : (k : ℕ) (us : List ℕ) (x : Ref) → good_ref ls k us x ≡ true → as_bit (any (eqb r) (x.line ∷ us)) ≡ as_bit (any (eqb r) us) + cond (eqb r x.line) 1 0
  one_more k us x h = go (eqb r x.line) refl
    where
      go : (b : Bool) → eqb r x.line ≡ b → as_bit (eqb r x.line || any (eqb r) us) ≡ as_bit (any (eqb r) us) + cond (eqb r x.line) 1 0
      go true p = rw (p, good-first k us x (eqb-true r x.line p) h)
      go false p = rw p (omega arith)

  uses-all : (k : ℕ) (rs : List Ref) (us vs : List ℕ) → use_all ls k rs us ≡ Some vs → as_bit (any (eqb r) vs) ≡ as_bit (any (eqb r) us) + uses_of r rs
  uses-all k [] us vs e = let p : us ≡ vs = cc in rw (← p) (omega arith)
  uses-all k (x ∷ rs) us vs e = go (good_ref ls k us x) refl (λ p. uses-all k rs (x.line ∷ us) vs p)
    where
      go : (b : Bool) → good_ref ls k us x ≡ b → (use_all ls k rs (x.line ∷ us) ≡ Some vs → as_bit (any (eqb r) vs) ≡ as_bit (any (eqb r) (x.line ∷ us)) + uses_of r rs)
          → as_bit (any (eqb r) vs) ≡ as_bit (any (eqb r) us) + (cond (eqb r x.line) 1 0 + uses_of r rs)
      go true q ih = ih (rw q at e) ∙ omega (arith, one_more k us x q)
      go false q ih = let p : None ≡ Some vs = rw q at e in never cc

  flag-low : (b : Bool) → as_bit b ≤ 1
  flag-low true = omega arith
  flag-low false = omega arith

  pass-once : (ms : List Read) (k : ℕ) (us : List ℕ) → 0 < k → bad_ref_from ls k us ms ≡ 0 → as_bit (any (eqb r) us) + uses_in r ms ≤ 1
  unfolding bad_ref_from
  pass-once [] k us h e = omega (arith, flag-low (any (eqb r) us))
  pass-once (m ∷ ms) k us h e = go (use_all ls k (refs_of m) us) refl (λ vs p. pass-once ms (suc k) vs (omega arith) p)
    where
      go : (o : Option (List ℕ)) → use_all ls k (refs_of m) us ≡ o → ((vs : List ℕ) → bad_ref_from ls (suc k) vs ms ≡ 0 → as_bit (any (eqb r) vs) + uses_in r ms ≤ 1)
          → as_bit (any (eqb r) us) + (uses_of r (refs_of m) + uses_in r ms) ≤ 1
      go None q ih = let p : k ≡ 0 = rw q at e in absurd (omega arith)
      go (Some vs) q ih = omega (arith, ih vs (rw q at e), uses-all k (refs_of m) us vs q)

  pub used-once : bad_ref_from ls 1 [] ls ≡ 0 → uses_in r ls ≤ 1
  used-once e = omega (arith, pass-once ls 1 [] (omega arith) e)

-- A sheet that does not nest too deep: the depths of its lines are at most 32, and fall along references.
use mathlib.Core.Path.{◌≡◌, refl, sym, ap, ◌∙◌}
use mathlib.Core.Bool.{Bool, true, false, cond, ◌&&◌}
use mathlib.Core.List.{List, [], ◌∷◌, ◌++◌}
use Prim.Native.Nat.{ℕ, zero, suc, ◌+◌, ◌-◌, ◌≤◌, ◌<◌, max}
use native.Mathlib.Omega.{arith}
use lib.Dec.{leb, ltb, eqb}
use lib.ListN.{length, take, get_or, length-append}
use lib.Seq.{get_or-take, get_or-append_seam, take_all, take_at, take-take}
use borrow.Author.Tests.{lt-ltb, leb-true, ltb-true, eqb-false}
use Rattle.semantics.specs.Form.{Read}
use Rattle.semantics.specs.Refusal.{Ref, no_read, refs_of, deepest, too_deep_from, bad_ref_from}
use Rattle.semantics.proofs.Common.{both}
use Rattle.lines.specs.Lines.{lines_in, reads_in, read_at, Whole}
use Rattle.lines.proofs.Line.{line-count}
use Rattle.refs.specs.Refs.{fine_ref, fine_refs}
use Rattle.refs.proofs.Fine.{refs-fine}
use Rattle.nesting.specs.Nesting.{depths_from, depth_of, lower_refs}

prefix : (ls : List Read) (ds : List ℕ) → take (length ds) (depths_from ds ls) ≡ ds
unfolding depths_from
prefix [] ds = take_all (length ds) ds (omega arith)
prefix (l ∷ ls) ds =
    let d = suc (deepest ds (refs_of l)) in
    sym (take-take (length ds) (length (ds ++ (d ∷ []))) (depths_from (ds ++ (d ∷ [])) ls) (omega (arith, length-append ds (d ∷ []))))
    ∙ ap (take (length ds)) (prefix ls (ds ++ (d ∷ []))) ∙ take_at ds (d ∷ []) (length ds) refl

-- the depth of the first line
head-depth : (l : Read) (ls : List Read) (ds : List ℕ) → get_or (depths_from ds (l ∷ ls)) (length ds) 0 ≡ suc (deepest ds (refs_of l))
unfolding depths_from
head-depth l ls ds =
    let d = suc (deepest ds (refs_of l)) in
    sym (get_or-take (length (ds ++ (d ∷ []))) (depths_from (ds ++ (d ∷ [])) ls) (length ds) 0 (omega (arith, length-append ds (d ∷ []))))
    ∙ ap (λ (xs : List ℕ). get_or xs (length ds) 0) (prefix ls (ds ++ (d ∷ []))) ∙ get_or-append_seam ds d [] 0

depth-step : (ls : List Read) (ds : List ℕ) (i : ℕ) → i < length ls → get_or (depths_from ds ls) (length ds + i) 0 ≡ suc (deepest (take (length ds + i) (depths_from ds ls)) (refs_of (get_or ls i no_read)))
unfolding depths_from
depth-step [] ds i h = absurd (omega arith)
depth-step (l ∷ ls) ds zero h =
    let z : length ds + 0 ≡ length ds = omega arith in
    rw z (head-depth l ls ds ∙ sym (ap (λ (xs : List ℕ). suc (deepest xs (refs_of l))) (prefix (l ∷ ls) ds)))
depth-step (l ∷ ls) ds (suc i) h =
    let d = suc (deepest ds (refs_of l)) in
    let z : length ds + suc i ≡ length (ds ++ (d ∷ [])) + i = omega (arith, length-append ds (d ∷ [])) in
    rw z (depth-step ls (ds ++ (d ∷ [])) i (omega arith))

pass-low : (ls : List Read) (ds : List ℕ) (k i : ℕ) → 0 < k → too_deep_from k ds ls ≡ 0 → i < length ls → get_or (depths_from ds ls) (length ds + i) 0 ≤ 32
unfolding too_deep_from depths_from
pass-low [] ds k i p e h = absurd (omega arith)
pass-low (l ∷ ls) ds k i p e h = go (leb (suc (deepest ds (refs_of l))) 32) refl (λ x j y. pass-low ls (ds ++ (suc (deepest ds (refs_of l)) ∷ [])) (suc k) j (omega arith) x y) i h
  where
    go : (b : Bool) → leb (suc (deepest ds (refs_of l))) 32 ≡ b
        → (too_deep_from (suc k) (ds ++ (suc (deepest ds (refs_of l)) ∷ [])) ls ≡ 0 → (j : ℕ) → j < length ls → get_or (depths_from (ds ++ (suc (deepest ds (refs_of l)) ∷ [])) ls) (length (ds ++ (suc (deepest ds (refs_of l)) ∷ [])) + j) 0 ≤ 32)
        → (i : ℕ) → i < suc (length ls) → get_or (depths_from ds (l ∷ ls)) (length ds + i) 0 ≤ 32
    go false q ih i h = let z : k ≡ 0 = rw q at e in absurd (omega arith)
    go true q ih zero h = let z : length ds + 0 ≡ length ds = omega arith in rw (z, head-depth l ls ds) (leb-true (suc (deepest ds (refs_of l))) 32 q)
    go true q ih (suc j) h =
        let z : length ds + suc j ≡ length (ds ++ (suc (deepest ds (refs_of l)) ∷ [])) + j = omega (arith, length-append ds (suc (deepest ds (refs_of l)) ∷ [])) in
        rw z (ih (rw q at e) j (omega arith))

-- references of line i are less deep than what they make it
lower-all : (ls : List Read) (i : ℕ) (rs : List Ref) → fine_refs ls i rs ≡ true → deepest (take i (depths_from [] ls)) rs < depth_of ls i → lower_refs ls i rs ≡ true
unfolding lower_refs fine_refs
lower-all ls i [] f h = refl
lower-all ls i (r ∷ rs) f h =
    go (eqb r.line 0) refl (both (fine_ref ls (i + 1) r) (fine_refs ls i rs) f).0
    (lower-all ls i rs (both (fine_ref ls (i + 1) r) (fine_refs ls i rs) f).1 (omega arith))
  where
    go : (b : Bool) → eqb r.line 0 ≡ b → fine_ref ls (i + 1) r ≡ true → lower_refs ls i rs ≡ true
        → cond (eqb r.line 0) true (ltb (depth_of ls (r.line - 1)) (depth_of ls i)) && lower_refs ls i rs ≡ true
    go true q g ih = rw (q, ih)
    go false q g ih =
        let n = eqb-false r.line 0 q in
        let e : r.line < i + 1 = ltb-true r.line (i + 1) (both (ltb r.line (i + 1)) _ (rw q at g)).0 in
        let t : get_or (take i (depths_from [] ls)) (r.line - 1) 0 ≡ depth_of ls (r.line - 1) = get_or-take i (depths_from [] ls) (r.line - 1) 0 (omega (arith, n)) in
        let m : max (get_or (take i (depths_from [] ls)) (r.line - 1) 0) (deepest (take i (depths_from [] ls)) rs) < depth_of ls i = rw q at h in
        rw (q, lt-ltb (depth_of ls (r.line - 1)) (depth_of ls i) (omega (arith, t)), ih)

module _ (s : List ℕ) (w : Whole s) (i : ℕ) (h : i < lines_in s) where
  pub depth_low : too_deep_from 1 [] (reads_in s) ≡ 0 → depth_of (reads_in s) i ≤ 32
  depth_low e = let z : 0 + i ≡ i = omega arith in rw z at (pass-low (reads_in s) [] 1 i (omega arith) e (omega (arith, line-count s)))

  pub refs-lower : bad_ref_from (reads_in s) 1 [] (reads_in s) ≡ 0 → lower_refs (reads_in s) i (refs_of (read_at s i)) ≡ true
  refs-lower good =
      let z : 0 + i ≡ i = omega arith in
      let e : depth_of (reads_in s) i ≡ suc (deepest (take i (depths_from [] (reads_in s))) (refs_of (read_at s i))) = rw z at (depth-step (reads_in s) [] i (omega (arith, line-count s))) in
      lower-all (reads_in s) i (refs_of (read_at s i)) (refs-fine s w good i h) (omega (arith, e))

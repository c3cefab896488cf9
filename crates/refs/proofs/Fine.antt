-- A sheet without a bad reference: each reference is 0 where it may be, or an earlier line of its kind.
use mathlib.Core.Path.{◌≡◌, refl}
use mathlib.Core.Bool.{Bool, true, false, cond, not, ◌&&◌}
use mathlib.Core.List.{List, [], ◌∷◌}
use Rattle.std.specs.Prelude.{Option, None, Some}
use Prim.Native.Nat.{ℕ, zero, suc, ◌+◌, ◌<◌}
use native.Mathlib.Omega.{arith}
use lib.Dec.{ltb, eqb}
use lib.ListN.{length, get_or}
use borrow.Author.Tests.{ltb-true, eqb-true, eqb-false}
use Rattle.semantics.specs.Text.{any}
use Rattle.semantics.specs.Form.{Read, letter}
use Rattle.semantics.specs.Refusal.{Ref, no_read, line_at, refs_of, good_ref, use_all, bad_ref_from}
use Rattle.semantics.proofs.Common.{never, both}
use Rattle.lines.specs.Lines.{lines_in, reads_in, read_at, Whole}
use Rattle.lines.proofs.Line.{line-count}
use Rattle.refs.specs.Refs.{fine_ref, fine_refs}

-- a reference that may not be 0
pub needed-ref : (ls : List Read) (k q m : ℕ) → fine_ref ls k (record { kind = q; optional = false; line = m }) ≡ true → (m ≡ 0 → ⊥) × (m < k) × (letter (line_at ls m).form.kind ≡ q)
needed-ref ls k q m = go (eqb m 0) refl
  where
    go : (b : Bool) → eqb m 0 ≡ b → cond b false (ltb m k && eqb (letter (line_at ls m).form.kind) q) ≡ true → (m ≡ 0 → ⊥) × (m < k) × (letter (line_at ls m).form.kind ≡ q)
    go true p h = never h
    go false p h =
        let w = both (ltb m k) (eqb (letter (line_at ls m).form.kind) q) h in
        (eqb-false m 0 p, ltb-true m k w.0, eqb-true (letter (line_at ls m).form.kind) q w.1)

good-fine : (ls : List Read) (k : ℕ) (us : List ℕ) (r : Ref) → good_ref ls k us r ≡ true → fine_ref ls k r ≡ true
good-fine ls k us r = go (eqb r.line 0)
  where
    go : (b : Bool) → cond b r.optional (ltb r.line k && eqb (letter (line_at ls r.line).form.kind) r.kind && not (any (eqb r.line) us)) ≡ true
        → cond b r.optional (ltb r.line k && eqb (letter (line_at ls r.line).form.kind) r.kind) ≡ true
    go true e = e
    go false e = (both (ltb r.line k && eqb (letter (line_at ls r.line).form.kind) r.kind) (not (any (eqb r.line) us)) e).0

uses-fine : (ls : List Read) (i : ℕ) (rs : List Ref) (us vs : List ℕ) → use_all ls (i + 1) rs us ≡ Some vs → fine_refs ls i rs ≡ true
unfolding fine_refs
uses-fine ls i [] us vs e = refl
uses-fine ls i (r ∷ rs) us vs e = go (good_ref ls (i + 1) us r) refl (λ x. uses-fine ls i rs (r.line ∷ us) vs x)
  where
    go : (b : Bool) → good_ref ls (i + 1) us r ≡ b → (use_all ls (i + 1) rs (r.line ∷ us) ≡ Some vs → fine_refs ls i rs ≡ true) → fine_refs ls i (r ∷ rs) ≡ true
    go true q ih = rw (good-fine ls (i + 1) us r q) (ih (rw q at e))
    go false q ih = let p : None ≡ Some vs = rw q at e in never cc

pass-fine : (ls ms : List Read) (k : ℕ) (us : List ℕ) → bad_ref_from ls (k + 1) us ms ≡ 0 → (i : ℕ) → i < length ms → fine_refs ls (k + i) (refs_of (get_or ms i no_read)) ≡ true
unfolding bad_ref_from
pass-fine ls [] k us e i l = absurd (omega arith)
pass-fine ls (m ∷ ms) k us e i l = go (use_all ls (k + 1) (refs_of m) us) refl (λ vs x j y. pass-fine ls ms (k + 1) vs x j y) i l
  where
    go : (o : Option (List ℕ)) → use_all ls (k + 1) (refs_of m) us ≡ o
        → ((vs : List ℕ) → bad_ref_from ls (k + 1 + 1) vs ms ≡ 0 → (j : ℕ) → j < length ms → fine_refs ls (k + 1 + j) (refs_of (get_or ms j no_read)) ≡ true)
        → (i : ℕ) → i < suc (length ms) → fine_refs ls (k + i) (refs_of (get_or (m ∷ ms) i no_read)) ≡ true
    go None q ih i l = let p : k + 1 ≡ 0 = rw q at e in absurd (omega arith)
    go (Some vs) q ih zero l = let z : k + 0 ≡ k = omega arith in rw z (uses-fine ls k (refs_of m) us vs q)
    go (Some vs) q ih (suc j) l =
        let z : k + suc j ≡ k + 1 + j = omega arith in
        let y : suc (k + 1) ≡ k + 1 + 1 = omega arith in
        rw z (ih vs (rw (q, y) at e) j (omega arith))

pub refs-fine : (s : List ℕ) → Whole s → bad_ref_from (reads_in s) 1 [] (reads_in s) ≡ 0 → (i : ℕ) → i < lines_in s → fine_refs (reads_in s) i (refs_of (read_at s i)) ≡ true
refs-fine s w e i h = let z : 0 + i ≡ i = omega arith in rw z at (pass-fine (reads_in s) (reads_in s) 0 [] e i (omega (arith, line-count s)))

-- A sheet without too many declarations: what all its lines declare is within the bounds.
use mathlib.Core.Path.{◌≡◌, refl, sym, ap, ◌∙◌}
use mathlib.Core.Bool.{Bool, true, false, cond}
use mathlib.Core.List.{List, [], ◌∷◌, ◌++◌}
use Prim.Native.Nat.{ℕ, suc, ◌+◌, ◌<◌}
use native.Mathlib.Omega.{arith}
use lib.ListN.{length, length-append}
use Rattle.semantics.specs.Tree.{AdtDecl, VarDecl, Declares, Node}
use Rattle.semantics.specs.Sheet.{declared}
use Rattle.semantics.specs.Refusal.{Counts, no_counts, counted, over_limits, sum_of, record_count, too_many_from}
use Rattle.counts.specs.Counts.{Bounded}
use Rattle.counts.proofs.Laws.{bounded}

sum-append : {A : Type 0} (f : A → ℕ) (xs ys : List A) → sum_of f (xs ++ ys) ≡ sum_of f xs + sum_of f ys
sum-append f [] ys = omega arith
sum-append f (x ∷ xs) ys = let e = sum-append f xs ys in omega arith

-- all lines counted
total_counts : Counts → List Node → Counts
total_counts c [] = c
total_counts c (n ∷ ns) = total_counts (counted n.declares c) ns

pass-total : (ns : List Node) (k : ℕ) (c : Counts) → 0 < k → over_limits c ≡ false → too_many_from k c ns ≡ 0 → over_limits (total_counts c ns) ≡ false
unfolding too_many_from total_counts
pass-total [] k c p h e = h
pass-total (n ∷ ns) k c p h e = go (over_limits (counted n.declares c)) refl (λ q x. pass-total ns (suc k) (counted n.declares c) (omega arith) q x)
  where
    go : (b : Bool) → over_limits (counted n.declares c) ≡ b → (over_limits (counted n.declares c) ≡ false → too_many_from (suc k) (counted n.declares c) ns ≡ 0 → over_limits (total_counts (counted n.declares c) ns) ≡ false)
        → over_limits (total_counts (counted n.declares c) ns) ≡ false
    go true q ih = let z : k ≡ 0 = ap (λ (b : Bool). cond b k (too_many_from (suc k) (counted n.declares c) ns)) (sym q) ∙ e in absurd (omega arith)
    go false q ih = ih q (ap (λ (b : Bool). cond b k (too_many_from (suc k) (counted n.declares c) ns)) (sym q) ∙ e)

total-consts : (ns : List Node) (c : Counts) → (total_counts c ns).consts ≡ c.consts + length (declared (λ (d : Declares). d.consts) ns)
unfolding total_counts
total-consts [] c = omega arith
total-consts (n ∷ ns) c = total-consts ns (counted n.declares c) ∙ rw (length-append n.declares.consts) (omega arith)

total-needs : (ns : List Node) (c : Counts) → (total_counts c ns).needs ≡ c.needs + length (declared (λ (d : Declares). d.needs) ns)
unfolding total_counts
total-needs [] c = omega arith
total-needs (n ∷ ns) c = total-needs ns (counted n.declares c) ∙ rw (length-append n.declares.needs) (omega arith)

total-frames : (ns : List Node) (c : Counts) → (total_counts c ns).frames ≡ c.frames + length (declared (λ (d : Declares). d.frames) ns)
unfolding total_counts
total-frames [] c = omega arith
total-frames (n ∷ ns) c = total-frames ns (counted n.declares c) ∙ rw (length-append n.declares.frames) (omega arith)

total-records : (ns : List Node) (c : Counts) → (total_counts c ns).records ≡ c.records + sum_of (λ (a : AdtDecl). record_count a.pick) (declared (λ (d : Declares). d.adts) ns)
unfolding total_counts
total-records [] c = omega arith
total-records (n ∷ ns) c = total-records ns (counted n.declares c) ∙ rw (sum-append (λ (a : AdtDecl). record_count a.pick) n.declares.adts) (omega arith)

total-names : (ns : List Node) (c : Counts) → (total_counts c ns).names ≡ c.names + sum_of (λ (v : VarDecl). length v.names) (declared (λ (d : Declares). d.vars) ns)
unfolding total_counts
total-names [] c = omega arith
total-names (n ∷ ns) c = total-names ns (counted n.declares c) ∙ rw (sum-append (λ (v : VarDecl). length v.names) n.declares.vars) (omega arith)

pub within-bounds : (ns : List Node) → too_many_from 1 no_counts ns ≡ 0 → Bounded ns
within-bounds ns e =
    let b = bounded (total_counts no_counts ns) (pass-total ns 1 no_counts (omega arith) refl e) in
    record {
      consts = omega (arith, b.0, total-consts ns no_counts);
      needs = omega (arith, b.1, total-needs ns no_counts);
      frames = omega (arith, b.2, total-frames ns no_counts);
      records = omega (arith, b.3, total-records ns no_counts);
      names = omega (arith, b.4, total-names ns no_counts);
    }

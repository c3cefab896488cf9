-- Where what stands below a place, or outside two, is kept.
use mathlib.Core.Path.{◌≡◌, refl, sym, ap, ◌∙◌}
use mathlib.Core.List.{List}
use Prim.Native.Nat.{ℕ, ◌+◌, ◌-◌, ◌≤◌, ◌<◌}
use native.Mathlib.Omega.{arith}
use lib.ListN.{length, take, drop, get_or, set, length-set}
use lib.Seq.{get_or-take, take-take, take-set-le, drop-set-lt, get_or-drop, drop-drop}
use Rattle.write.specs.Wrote.{over, Wrote}
use Rattle.write.proofs.Wrote.{length_over}
use Rattle.write.proofs.Over.{take-over, drop-over}
use Rattle.checks.specs.Checks.{Kept, Outside}

pub kept-all : {k : ℕ} {t : List ℕ} → Kept k t t
kept-all = record { below = refl; long = refl }

pub kept_then : {k : ℕ} {t u v : List ℕ} → Kept k t u → Kept k u v → Kept k t v
kept_then a b = record { below = b.below ∙ a.below; long = b.long ∙ a.long }

pub kept_less : {j k : ℕ} {t u : List ℕ} → j ≤ k → Kept k t u → Kept j t u
kept_less {j} {k} {t} {u} h a = record { below = sym (take-take j k u h) ∙ ap (take j) a.below ∙ take-take j k t h; long = a.long }

pub kept_at : {k : ℕ} {t u : List ℕ} → Kept k t u → (i : ℕ) → i < k → get_or u i 0 ≡ get_or t i 0
kept_at {k} {t} {u} a i h = sym (get_or-take k u i 0 h) ∙ ap (λ (l : List ℕ). get_or l i 0) a.below ∙ get_or-take k t i 0 h

pub outside-all : {a b : ℕ} {t : List ℕ} → Outside a b t t
outside-all = record { kept = kept-all; above = refl }

pub outside-then : {a b : ℕ} {t u v : List ℕ} → Outside a b t u → Outside a b u v → Outside a b t v
outside-then x y = record { kept = kept_then x.kept y.kept; above = y.above ∙ x.above }

pub outside-less : {a b : ℕ} {t u : List ℕ} (c d : ℕ) → c ≤ a → b ≤ d → Outside a b t u → Outside c d t u
outside-less {a} {b} {t} {u} c d h k x =
    let z : b + (d - b) ≡ d = omega arith in
    record { kept = kept_less h x.kept; above = rw z at (sym (drop-drop (d - b) b u) ∙ ap (drop (d - b)) x.above ∙ drop-drop (d - b) b t) }

pub outside_set : (a b : ℕ) (t : List ℕ) (j x : ℕ) → a ≤ j → j < b → Outside a b t (set t j x)
outside_set a b t j x h k = record { kept = record { below = take-set-le a t j x h; long = length-set t j x }; above = drop-set-lt b t j x k }

pub outside_above : {a b : ℕ} {t u : List ℕ} → Outside a b t u → (j : ℕ) → b ≤ j → get_or u j 0 ≡ get_or t j 0
outside_above {a} {b} {t} {u} x j h =
    let z : b + (j - b) ≡ j = omega arith in
    rw z at (sym (get_or-drop b u (j - b) 0) ∙ ap (λ (l : List ℕ). get_or l (j - b) 0) x.above ∙ get_or-drop b t (j - b) 0)

-- ---- a write

pub over-kept : (d : List ℕ) (a : ℕ) (t : List ℕ) → Kept a d (over d a t)
over-kept d a t = record { below = take-over d a t a (omega arith); long = length_over d a t }

pub over-outside : (d : List ℕ) (a : ℕ) (t : List ℕ) → Outside a (a + length t) d (over d a t)
over-outside d a t = record { kept = over-kept d a t; above = drop-over d a t (a + length t) (omega arith) }

pub wrote_kept : {d : List ℕ} {a : ℕ} {t e : List ℕ} {b : ℕ} → Wrote d a t e b → Kept a d e
wrote_kept {d} {a} {t} w = rw w.bytes (over-kept d a t)

pub wrote-outside : {d : List ℕ} {a : ℕ} {t e : List ℕ} {b : ℕ} → Wrote d a t e b → Outside a (a + length t) d e
wrote-outside {d} {a} {t} w = rw w.bytes (over-outside d a t)

-- Laws of a run of writes.
use Prim.Native.Nat.{ℕ, zero, suc, ◌+◌, ◌-◌, ◌≤◌, ◌<◌}
use mathlib.Core.Path.{◌≡◌, refl, sym, ap, ◌∙◌}
use mathlib.Core.Bool.{Bool, true, false}
use mathlib.Core.List.{[], ◌∷◌, ◌++◌}
use native.Mathlib.Omega.{arith}
use native.Mathlib.Nat.{add-zero, zero-add}
use lib.Dec.{ltb}
use lib.ListN.{length, take, drop, get_or, set, replicate, length-set, length-append, length-replicate}
use native.Mathlib.Numerals.{add-one}
use lib.Seq.{set_out, sets-eq, length-sets, take-suc}
use borrow.Author.Tests.{ltb-true, ltb-false}
use Rattle.semantics.specs.Text.{Bytes}
use Rattle.write.specs.Wrote.{over, Wrote}

-- ---- bytes stored over others

pub length_over : (d : Bytes) (a : ℕ) (t : Bytes) → length (over d a t) ≡ length d
unfolding over
length_over d a t = length-sets d a t

pub over-out : (d : Bytes) (a : ℕ) (t : Bytes) → length d ≤ a → over d a t ≡ d
unfolding over
over-out d a [] h = refl
over-out d a (x ∷ t) h = over-out (set d a x) (suc a) t (omega (arith, length-set d a x)) ∙ set_out d a x h

over-append : (d : Bytes) (a : ℕ) (t u : Bytes) → over d a (t ++ u) ≡ over (over d a t) (a + length t) u
unfolding over
over-append d a [] u = rw add-zero
over-append d a (x ∷ t) u =
    let q : suc a + length t ≡ a + suc (length t) = omega arith in
    over-append (set d a x) (suc a) t u ∙ ap (λ (j : ℕ). over (over (set d a x) (suc a) t) j u) q

-- ---- writes

pub wrote-length : {d : Bytes} {a : ℕ} {t e : Bytes} {b : ℕ} → Wrote d a t e b → length e ≡ length d
wrote-length {d} {a} {t} w = ap length w.bytes ∙ length_over d a t

-- nothing, at a place that is no further than one past the end
pub wrote_none : (d : Bytes) (a : ℕ) → a ≤ length d + 1 → Wrote d a [] d a
unfolding over
wrote_none d a h = record { bytes = refl; place = omega arith }

pub wrote-byte : (d : Bytes) (a x : ℕ) → a < length d → Wrote d a (x ∷ []) (set d a x) (a + 1)
unfolding over
wrote-byte d a x h = record { bytes = refl; place = omega arith }

-- past the end
pub wrote-past : (d : Bytes) (a : ℕ) (t : Bytes) → length d ≤ a → length d < a + length t → Wrote d a t d (length d + 1)
wrote-past d a t h l = record { bytes = sym (over-out d a t h); place = omega arith }

-- the same text said otherwise
pub wrote_as : {d : Bytes} {a : ℕ} {t u e : Bytes} {b : ℕ} → t ≡ u → Wrote d a t e b → Wrote d a u e b
wrote_as q w = rw (← q) w

-- one write after another
pub then : {d : Bytes} {a : ℕ} {t e : Bytes} {b : ℕ} {u f : Bytes} {c : ℕ} → Wrote d a t e b → Wrote e b u f c → Wrote d a (t ++ u) f c
then {d} {a} {t} {e} {b} {u} {f} {c} v w = record {
  bytes = w.bytes ∙ same (ltb (length d) (a + length t)) refl ∙ sym (over-append d a t u);
  place = omega (arith, length-append t u, v.place, w.place, wrote-length v);
}
  where
    same : (s : Bool) → ltb (length d) (a + length t) ≡ s → over e b u ≡ over (over d a t) (a + length t) u
    same false q =
        let h : a + length t ≤ length d = ltb-false _ _ q in
        let r : b ≡ a + length t = omega (arith, v.place) in
        ap (λ (j : ℕ). over e j u) r ∙ ap (λ (m : Bytes). over m (a + length t) u) v.bytes
    same true q =
        let h : length d < a + length t = ltb-true _ _ q in
        over-out e b u (omega (arith, v.place, wrote-length v)) ∙ v.bytes ∙ sym (over-out (over d a t) (a + length t) u (omega (arith, length_over d a t)))

-- one more byte of a list
pub wrote-next : (s : Bytes) (k : ℕ) → k < length s → {d : Bytes} {a : ℕ} {e : Bytes} {b : ℕ} {f : Bytes} {c : ℕ}
    → Wrote d a (take k s) e b → Wrote e b (get_or s k 0 ∷ []) f c → Wrote d a (take (k + 1) s) f c
wrote-next s k h v w = rw (add-one, take-suc s k 0 h) (then v w)

-- ---- zeros

drop-zeros : (n k : ℕ) → drop {A = ℕ} n (replicate k 0) ≡ replicate (k - n) 0
drop-zeros zero k = let q : k - 0 ≡ k = omega arith in rw q
drop-zeros (suc n) zero = let q : 0 - suc n ≡ 0 = omega arith in rw q
drop-zeros (suc n) (suc k) = let q : suc k - suc n ≡ k - n = omega arith in rw q (drop-zeros n k)

-- On n zeros, from their start: a place within them tells that the text fitted, and it stands there then, with zeros behind it;
-- a place past them tells that it did not fit.
pub on-zeros : {n : ℕ} {t e : Bytes} {b : ℕ} → Wrote (replicate n 0) 0 t e b
    → (b ≤ n → (b ≡ length t) × (e ≡ t ++ replicate (n - length t) 0)) × (n < b → n < length t)
unfolding over
on-zeros {n} {t} w =
    let l = length-replicate {A = ℕ} n 0 in (
      λ h. (omega (arith, w.place), w.bytes ∙ sets-eq t (replicate n 0) 0 (omega (arith, w.place)) ∙ rw (zero-add, drop-zeros (length t) n)),
      λ h. omega (arith, w.place),
    )

-- the next place is at most one past the end
pub place-low : {d : Bytes} {a : ℕ} {t e : Bytes} {b : ℕ} → Wrote d a t e b → b ≤ length e + 1
place-low w = omega (arith, w.place, wrote-length w)

-- Laws of comparing a text with a field in place.
use mathlib.Core.Path.{◌≡◌, refl, sym, ◌∙◌}
use mathlib.Core.Bool.{Bool, true, false, ◌&&◌, and-false}
use mathlib.Core.List.{[], ◌∷◌}
use Prim.Native.Nat.{ℕ, zero, suc, ◌+◌, ◌-◌, ◌≤◌, ◌<◌}
use native.Mathlib.Omega.{arith}
use native.Mathlib.Numerals.{add-one}
use lib.Dec.{eqb}
use lib.ListN.{length, drop, get_or, length-drop}
use lib.Seq.{drop-cons, drop-drop, drop-length}
use borrow.Author.Tests.{eq-eqb, ne_eqb, eqb-true, eqb-false}
use Rattle.semantics.specs.Text.{Bytes, same}
use Rattle.semantics.specs.Form as Form
use Rattle.text.specs.Parts.{until}
use Rattle.text.proofs.Parts.{until-take, until-hit, until_end}
use Rattle.form.proofs.Laws.{fields-step, fields-end}

-- ---- where a field ends

pub begins-none : (d : Bytes) → Form.begins [] d ≡ same [] (until 44 d)
unfolding until
begins-none [] = refl
begins-none (b ∷ d) = go (eqb b 44) refl
  where
    go : (t : Bool) → eqb b 44 ≡ t → t ≡ same [] (until 44 (b ∷ d))
    go true q = simp q
    go false q = simp q

pub ends-hit : (l : Bytes) (e : ℕ) → e < length l → eqb (get_or l e 0) 44 ≡ same [] (until 44 (drop e l))
ends-hit l e h = rw (drop-cons l e 0 h) (begins-none (get_or l e 0 ∷ drop (suc e) l))

pub ends-end : (l : Bytes) (e : ℕ) → e ≡ length l → true ≡ same [] (until 44 (drop e l))
ends-end l e h = rw (until_end l 44 e (omega arith))

-- ---- a text and the field that begins at a place

-- what differs from some place on differs
later : (name d : Bytes) (i : ℕ) → i ≤ length name → i ≤ length d → same (drop i name) (until 44 (drop i d)) ≡ false → same name (until 44 d) ≡ false
unfolding until
later name d zero h k e = e
later [] d (suc i) h k e = absurd (omega arith)
later (x ∷ name) [] (suc i) h k e = refl
later (x ∷ name) (y ∷ d) (suc i) h k e = go (eqb y 44) refl (later name d i (omega arith) (omega arith) e)
  where
    go : (t : Bool) → eqb y 44 ≡ t → same name (until 44 d) ≡ false → same (x ∷ name) (until 44 (y ∷ d)) ≡ false
    go true q f = simp q
    go false q f = simp (q, f) (and-false (eqb x y))

module _ (name l : Bytes) (at : ℕ) where
  from : (i : ℕ) → i ≤ length name → at + i ≤ length l → same (drop i name) (until 44 (drop (at + i) l)) ≡ false → false ≡ same name (until 44 (drop at l))
  from i h k e = sym (later name (drop at l) i h (omega (arith, length-drop at l)) (rw drop-drop e))

  pub stands-short : at ≤ length l → length l - at < length name → false ≡ same name (until 44 (drop at l))
  stands-short h k =
      let e : at + (length l - at) ≡ length l = omega arith in
      from (length l - at) (omega arith) (omega arith) (rw (drop-cons name (length l - at) 0 k, e, until_end l 44 (length l) (omega arith)))

  pub stands_on : at + length name ≤ length l → same [] (until 44 (drop (at + length name) l)) ≡ false → false ≡ same name (until 44 (drop at l))
  stands_on h e = from (length name) (omega arith) h (rw drop-length e)

  pub stands-end : same [] (until 44 (drop (at + length name) l)) ≡ true → same (drop (length name) name) (until 44 (drop (at + length name) l)) ≡ true
  stands-end e = rw drop-length e

  pub stands-all : same (drop 0 name) (until 44 (drop (at + 0) l)) ≡ true → true ≡ same name (until 44 (drop at l))
  stands-all e = let z : at + 0 ≡ at = omega arith in sym (rw z at e)

  module _ (i : ℕ) (h : i < length name) (k : at + i < length l) where
    pub stands-comma : get_or l (at + i) 0 ≡ 44 → false ≡ same name (until 44 (drop at l))
    stands-comma e = from i (omega arith) (omega arith) (rw (drop-cons name i 0 h, until-hit l 44 (at + i) k e))

    module _ (miss : (get_or l (at + i) 0 ≡ 44 → ⊥)) where
      opened : same (drop i name) (until 44 (drop (at + i) l)) ≡ eqb (get_or name i 0) (get_or l (at + i) 0) && same (drop (i + 1) name) (until 44 (drop (at + (i + 1)) l))
      unfolding until
      opened =
          let z : at + (i + 1) ≡ suc (at + i) = omega arith in
          rw (z, add-one, drop-cons name i 0 h, drop-cons l (at + i) 0 k) (simp (ne_eqb (get_or l (at + i) 0) 44 miss))

      pub stands-next : (j : ℕ) → i + 1 ≡ j → get_or l (at + i) 0 ≡ get_or name i 0 → same (drop j name) (until 44 (drop (at + j) l)) ≡ true → same (drop i name) (until 44 (drop (at + i) l)) ≡ true
      stands-next j q e r = opened ∙ rw (eq-eqb (get_or name i 0) (get_or l (at + i) 0) (sym e), q, r)

    pub stands-not : (get_or l (at + i) 0 ≡ get_or name i 0 → ⊥) → false ≡ same name (until 44 (drop at l))
    stands-not n = go (eqb (get_or l (at + i) 0) 44) refl
      where
        go : (t : Bool) → eqb (get_or l (at + i) 0) 44 ≡ t → false ≡ same name (until 44 (drop at l))
        go true q = stands-comma (eqb-true (get_or l (at + i) 0) 44 q)
        go false q = from i (omega arith) (omega arith) (opened (eqb-false (get_or l (at + i) 0) 44 q) ∙ rw (ne_eqb (get_or name i 0) (get_or l (at + i) 0) (λ e. n (sym e))))

-- ---- the first field

pub first-none : (l name : Bytes) (at : ℕ) → length l < at → eqb (length name) 0 ≡ same name (get_or (Form.fields_from at l) 0 [])
first-none l [] at h = rw (fields-end at l h)
first-none l (x ∷ name) at h = rw (fields-end at l h) (ne_eqb (suc (length name)) 0 (λ e. absurd (omega arith)))

pub first-field : (l : Bytes) (at : ℕ) → at ≤ length l → get_or (Form.fields_from at l) 0 [] ≡ until 44 (drop at l)
first-field l at h =
    let e : at + length (until 44 (drop at l)) - at ≡ length (until 44 (drop at l)) = omega arith in
    rw (fields-step l at (at + length (until 44 (drop at l))) h refl, e) (until-take 44 (drop at l))

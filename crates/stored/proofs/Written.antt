-- Bytes written over others, by place.
use Prim.Native.Nat.{ℕ, ◌+◌, ◌-◌, ◌≤◌, ◌<◌, max}
use native.Mathlib.Omega.{arith}
use mathlib.Core.Path.{◌≡◌, refl, sym, ap, ◌∙◌}
use mathlib.Core.Bool.{Bool, true, false, cond}
use mathlib.Core.List.{◌++◌}
use lib.ListN.{length, take, drop, get_or, replicate, length-append, length-drop, length-replicate}
use lib.Seq.{length-take-le, get_or-take, get_or-drop, drop-drop}
use lib.Dec.{leb, ltb}
use borrow.Author.Tests.{leb-true, leb-false, ltb-true, ltb-false, le-leb, lt-leb, lt-ltb, le-ltb}
use borrow.Rule.Slice.PartMut.{mid_of, put_mid}
use Rattle.semantics.specs.Text.{Bytes}
use Rattle.semantics.specs.Image.{written}
use Rattle.semantics.specs.Demand.{lies_in}
use Rattle.write.proofs.Wrote.{length_over}
use Rattle.write.proofs.Over.{over-is}
use Rattle.write.specs.Wrote.{over}
use Rattle.demand.proofs.Bytes.{get_or-first, get_or-second, get_or-zeros, written_is}

-- byte j of xs with ys laid at p
unfoldable pub laid_byte : ℕ → Bytes → Bytes → ℕ → ℕ
laid_byte p ys xs j = cond (lies_in j p (length ys)) (get_or ys (j - p) 0) (get_or xs j 0)

module _ (p : ℕ) (ys xs : Bytes) (j : ℕ) where
  pub laid-below : j < p → laid_byte p ys xs j ≡ get_or xs j 0
  unfolding laid_byte
  laid-below h = rw (lt-leb p j h)

  pub laid-in : p ≤ j → j < p + length ys → laid_byte p ys xs j ≡ get_or ys (j - p) 0
  unfolding laid_byte
  laid-in h k = rw (le-leb p j h, lt-ltb j (p + length ys) k)

  pub laid-past : p + length ys ≤ j → laid_byte p ys xs j ≡ get_or xs j 0
  unfolding laid_byte
  laid-past h = rw (le-leb p j (omega arith), le-ltb j (p + length ys) h)

  -- by cases of the place
  pub by_place : (P : Type 0) → (j < p → P) → (p ≤ j → j < p + length ys → P) → (p + length ys ≤ j → P) → P
  by_place P a b c = go (leb p j) refl (ltb j (p + length ys)) refl
    where
      go : (s : Bool) → leb p j ≡ s → (t : Bool) → ltb j (p + length ys) ≡ t → P
      go false e t f = a (leb-false p j e)
      go true e true f = b (leb-true p j e) (ltb-true j (p + length ys) f)
      go true e false f = c (ltb-false j (p + length ys) f)

module _ (xs : Bytes) (p : ℕ) (ys : Bytes) where
  abbrev front : Bytes
  front = take p (xs ++ replicate (p - length xs) 0)

  front_long : length front ≡ p
  front_long = length-take-le p (xs ++ replicate (p - length xs) 0) (omega (arith, length-append xs (replicate (p - length xs) 0), length-replicate {A = ℕ} (p - length xs) 0))

  pub written-long : length (written xs p ys) ≡ max (length xs) (p + length ys)
  written-long =
      let f = front_long in
      let a = length-append front (ys ++ drop (p + length ys) xs) in
      let b = length-append ys (drop (p + length ys) xs) in
      let c = length-drop (p + length ys) xs in
      omega arith

  pub written_at : (j : ℕ) → get_or (written xs p ys) j 0 ≡ laid_byte p ys xs j
  written_at j =
      let f = front_long in
      by_place p ys xs j (get_or (written xs p ys) j 0 ≡ laid_byte p ys xs j)
      (λ h. get_or-first front (ys ++ drop (p + length ys) xs) j (omega arith) ∙ get_or-take p (xs ++ replicate (p - length xs) 0) j 0 h ∙ get_or-zeros xs (p - length xs) j ∙ sym (laid-below p ys xs j h))
      (λ h k.
      get_or-second front (ys ++ drop (p + length ys) xs) j (omega arith)
      ∙ ap (λ (n : ℕ). get_or (ys ++ drop (p + length ys) xs) (j - n) 0) f
      ∙ get_or-first ys (drop (p + length ys) xs) (j - p) (omega arith)
      ∙ sym (laid-in p ys xs j h k))
      (λ h.
      let n : p + length ys + (j - p - length ys) ≡ j = omega arith in
      get_or-second front (ys ++ drop (p + length ys) xs) j (omega arith)
      ∙ ap (λ (n : ℕ). get_or (ys ++ drop (p + length ys) xs) (j - n) 0) f
      ∙ get_or-second ys (drop (p + length ys) xs) (j - p) (omega arith)
      ∙ get_or-drop (p + length ys) xs (j - p - length ys) 0
      ∙ ap (λ (n : ℕ). get_or xs n 0) n
      ∙ sym (laid-past p ys xs j h))

-- ---- what is stored over a buffer, where it fits

pub over-at : (d : Bytes) (a : ℕ) (t : Bytes) → a + length t ≤ length d → (j : ℕ) → get_or (over d a t) j 0 ≡ laid_byte a t d j
over-at d a t h j = ap (λ (xs : Bytes). get_or xs j 0) (over-is d a t h ∙ sym (written_is d a t h)) ∙ written_at d a t j

-- a part of the buffer anew
pub mid_at : (d : Bytes) (s n : ℕ) (ys : Bytes) → s + n ≤ length d → length ys ≡ n → (j : ℕ) → get_or (put_mid s n d ys) j 0 ≡ laid_byte s ys d j
mid_at d s n ys fits long j =
    let fit : s + length ys ≤ length d = omega arith in
    ap (λ (xs : Bytes). get_or xs j 0)
    (ap (λ (r : Bytes). take s d ++ (ys ++ r)) (drop-drop n s d ∙ ap (λ (k : ℕ). drop (s + k) d) (sym long)) ∙ sym (written_is d s ys fit))
    ∙ written_at d s ys j

-- the same by what is stored in the part
pub part-at : (d : Bytes) (s n o : ℕ) (t : Bytes) → s + n ≤ length d → o + length t ≤ n → (j : ℕ)
    → get_or (put_mid s n d (over (mid_of s n d) o t)) j 0 ≡ laid_byte (s + o) t d j
part-at d s n o t fits room j =
    let mid = mid_of s n d in
    let ys = over mid o t in
    let l : length mid ≡ n = length-take-le n (drop s d) (omega (arith, length-drop s d)) in
    let m : length ys ≡ n = length_over mid o t ∙ l in
    mid_at d s n ys fits m j
    ∙ by_place s ys d j (laid_byte s ys d j ≡ laid_byte (s + o) t d j)
    (λ h. laid-below s ys d j h ∙ sym (laid-below (s + o) t d j (omega arith)))
    (λ h k.
    let e : s + (j - s) ≡ j = omega arith in
    let below : get_or mid (j - s) 0 ≡ get_or d j 0 = get_or-take n (drop s d) (j - s) 0 (omega arith) ∙ get_or-drop s d (j - s) 0 ∙ ap (λ (k : ℕ). get_or d k 0) e in
    laid-in s ys d j h k ∙ over-at mid o t (omega arith) (j - s)
    ∙ by_place o t mid (j - s) (laid_byte o t mid (j - s) ≡ laid_byte (s + o) t d j)
    (λ a. laid-below o t mid (j - s) a ∙ below ∙ sym (laid-below (s + o) t d j (omega arith)))
    (λ a b.
    let q : j - s - o ≡ j - (s + o) = omega arith in
    laid-in o t mid (j - s) a b ∙ ap (λ (k : ℕ). get_or t k 0) q ∙ sym (laid-in (s + o) t d j (omega arith) (omega arith)))
    (λ a. laid-past o t mid (j - s) a ∙ below ∙ sym (laid-past (s + o) t d j (omega arith))))
    (λ h. laid-past s ys d j h ∙ sym (laid-past (s + o) t d j (omega arith)))

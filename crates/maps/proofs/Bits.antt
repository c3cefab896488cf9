-- The map of two lists of offsets is the union of their maps, bit by bit, so that the order of offsets and their repetition do not count.
use Prim.Native.Nat.{ℕ, zero, suc, ◌+◌, ◌-◌, ◌*◌, ◌/◌, ◌%◌, ◌^◌, ◌≤◌, ◌<◌, max}
use native.Mathlib.Omega.{arith}
use mathlib.Core.Path.{◌≡◌, refl, sym, ap, ◌∙◌}
use mathlib.Core.Bool.{Bool, true, false, ◌||◌, cond, or-false}
use mathlib.Core.List.{List, [], ◌∷◌, ◌++◌}
use lib.Bits.{bit_or, or_step, or_zero_l}
use lib.Dec.{eqb}
use lib.IntN.{ℤ, pos}
use lib.ListN.{get_or}
use lib.Seq.{ext_get_or}
use borrow.Author.Tests.{eqb-true, eqb-false, ne_eqb, le-leb}
use Rattle.semantics.specs.Layout.{marks, marked, map_bits, pointer_map}
use Rattle.laws.proofs.Maps.{bit_le, last_bit, byte_at}
use Rattle.layout.proofs.Pass.{map-length}

-- ---- or, bit by bit

or-digit : (x y a b : ℕ) → a ≤ 1 → b ≤ 1 → bit_or (2 * x + a) (2 * y + b) ≡ 2 * bit_or x y + max a b
or-digit x y a b h k =
    let p : (2 * x + a) / 2 ≡ x = omega arith in
    let q : (2 * y + b) / 2 ≡ y = omega arith in
    let r : (2 * x + a) % 2 ≡ a = omega arith in
    let s : (2 * y + b) % 2 ≡ b = omega arith in
    or_step (2 * x + a) (2 * y + b) ∙ rw (p, q, r, s) (omega arith)

or_parts : (a b : ℕ) → (bit_or a b / 2 ≡ bit_or (a / 2) (b / 2)) × (bit_or a b % 2 ≡ max (a % 2) (b % 2))
or_parts a b = (omega (arith, or_step a b), omega (arith, or_step a b))

pub or_assoc : (a b c : ℕ) → bit_or (bit_or a b) c ≡ bit_or a (bit_or b c)
or_assoc a b c = go (a + b + c) a b c (omega arith)
  where
    go : (k a b c : ℕ) → a + b + c ≤ k → bit_or (bit_or a b) c ≡ bit_or a (bit_or b c)
    go zero a b c h =
        let p : a ≡ 0 = omega arith in
        let q : b ≡ 0 = omega arith in
        let r : c ≡ 0 = omega arith in
        rw (p, q, r)
    go (suc k) zero b c h = rw (or_zero_l b, or_zero_l (bit_or b c))
    go (suc k) (suc a) b c h =
        let l = or_parts (suc a) b in
        let r = or_parts b c in
        or_step (bit_or (suc a) b) c
        ∙ rw (l.0, l.1, go k (suc a / 2) (b / 2) (c / 2) (omega arith)) (sym (or_step (suc a) (bit_or b c) ∙ rw (r.0, r.1) (omega arith)))

or-cond : (p q : Bool) → max (cond p 1 0) (cond q 1 0) ≡ cond (p || q) 1 0
or-cond true true = refl
or-cond true false = refl
or-cond false true = refl
or-cond false false = refl

-- ---- two lists

module _ (size : ℕ) where
  pub marked_append : (a b : List ℤ) (w : ℕ) → marked size (a ++ b) w ≡ marked size a w || marked size b w
  marked_append [] b w = refl
  marked_append (z ∷ a) b w = rw (marked_append a b w) (or-or (marks size w z) (marked size a w) (marked size b w))
    where
      or-or : (p q r : Bool) → p || (q || r) ≡ (p || q) || r
      or-or true q r = refl
      or-or false q r = refl

  bits-append : (a b : List ℤ) (d w : ℕ) → map_bits size (a ++ b) d w ≡ bit_or (map_bits size a d w) (map_bits size b d w)
  unfolding map_bits
  bits-append a b zero w = refl
  bits-append a b (suc d) w =
      let e = last_bit size a d w (w + d) refl in
      let f = last_bit size b d w (w + d) refl in
      let g = last_bit size (a ++ b) d w (w + d) refl in
      g ∙ rw (marked_append a b (w + d), bits-append a b d w, ← or-cond)
      (sym (or-digit (map_bits size a d w) (map_bits size b d w) _ _ (bit_le (marked size a (w + d))) (bit_le (marked size b (w + d)))))
      ∙ sym (ap (λ (x : ℕ). bit_or x (map_bits size b (suc d) w)) e ∙ ap (bit_or (2 * map_bits size a d w + cond (marked size a (w + d)) 1 0)) f)

  pub byte-append : (a b : List ℤ) (j : ℕ) → get_or (pointer_map size (a ++ b)) j 0 ≡ bit_or (get_or (pointer_map size a) j 0) (get_or (pointer_map size b) j 0)
  byte-append a b j = rw (byte_at size (a ++ b) j, byte_at size a j, byte_at size b j) (bits-append a b 8 (8 * j))

  -- ---- lists that mark the same words

  bits-same : (a b : List ℤ) → ((w : ℕ) → marked size a w ≡ marked size b w) → (d w : ℕ) → map_bits size a d w ≡ map_bits size b d w
  unfolding map_bits
  bits-same a b h zero w = refl
  bits-same a b h (suc d) w = rw (h w, bits-same a b h d (suc w))

  pub map_same : (a b : List ℤ) → ((w : ℕ) → marked size a w ≡ marked size b w) → pointer_map size a ≡ pointer_map size b
  map_same a b h =
      ext_get_or 0 (pointer_map size a) (pointer_map size b) (map-length size a ∙ sym (map-length size b))
      (λ j l. byte_at size a j ∙ bits-same a b h 8 (8 * j) ∙ sym (byte_at size b j))

  -- ---- one offset

  bits_none : (zs : List ℤ) (d w : ℕ) → ((x : ℕ) → w ≤ x → x < w + d → marked size zs x ≡ false) → map_bits size zs d w ≡ 0
  unfolding map_bits
  bits_none zs zero w h = refl
  bits_none zs (suc d) w h = rw (h w (omega arith) (omega arith), bits_none zs d (suc w) (λ x l k. h x (omega arith) (omega arith)))

  bits-one : (zs : List ℤ) (v : ℕ) → ((x : ℕ) → marked size zs x ≡ eqb v x) → (d w k : ℕ) → w ≤ v → w + d ≡ suc (v + k) → map_bits size zs d w ≡ 2 ^ k
  unfolding map_bits
  bits-one zs v h zero w k l e = absurd (omega arith)
  bits-one zs v h (suc d) w k l e = go (eqb v w) refl (λ m. bits-one zs v h d (suc w) k m (omega arith))
    where
      go : (b : Bool) → eqb v w ≡ b → (suc w ≤ v → map_bits size zs d (suc w) ≡ 2 ^ k) → cond (marked size zs w) (2 ^ d) 0 + map_bits size zs d (suc w) ≡ 2 ^ k
      go true q ih =
          let z : d ≡ k = omega (arith, eqb-true v w q) in
          let y = bits_none zs d (suc w) (λ x m n. h x ∙ ne_eqb v x (omega (arith, eqb-true v w q))) in
          rw (h w ∙ q, z) (omega (arith, rw z at y))
      go false q ih = rw (h w ∙ q) (omega (arith, ih (omega (arith, eqb-false v w q))))

  pub byte-none : (zs : List ℤ) → ((x : ℕ) → marked size zs x ≡ false) → (j : ℕ) → get_or (pointer_map size zs) j 0 ≡ 0
  byte-none zs h j = byte_at size zs j ∙ bits_none zs 8 (8 * j) (λ x l k. h x)

  module _ (off : ℕ) (fit : off + 4 ≤ size) where
    lone : (x : ℕ) → marked size (pos off ∷ []) x ≡ eqb (off / 4) x
    lone x = rw (le-leb (off + 4) size fit) (or-false (eqb (off / 4) x))

    pub byte_one : get_or (pointer_map size (pos off ∷ [])) (off / 4 / 8) 0 ≡ 2 ^ (7 - off / 4 % 8)
    byte_one = byte_at size (pos off ∷ []) (off / 4 / 8) ∙ bits-one (pos off ∷ []) (off / 4) lone 8 (8 * (off / 4 / 8)) (7 - off / 4 % 8) (omega arith) (omega arith)

    pub byte-other : (j : ℕ) → (j ≡ off / 4 / 8 → ⊥) → get_or (pointer_map size (pos off ∷ [])) j 0 ≡ 0
    byte-other j h = byte_at size (pos off ∷ []) j ∙ bits_none (pos off ∷ []) 8 (8 * j) (λ x l k. lone x ∙ ne_eqb (off / 4) x (omega (arith, h)))

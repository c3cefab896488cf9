-- Bytes laid over zeros, by place.
use Prim.Native.Nat.{ℕ, ◌+◌, ◌-◌, ◌/◌, ◌%◌, ◌≤◌, ◌<◌}
use native.Mathlib.Nat.{add-zero, zero-add}
use native.Mathlib.Omega.{arith}
use mathlib.Core.Path.{◌≡◌, refl, sym, ap, ◌∙◌}
use mathlib.Core.Bool.{Bool, true, false, ◌&&◌, cond}
use mathlib.Core.List.{[], ◌∷◌, ◌++◌, append-nil}
use lib.ListN.{length, take, drop, get_or, replicate, length-append, length-drop, length-replicate, get_or-replicate, get_or-append, get_or-eq_default}
use lib.Seq.{length-take-le, get_or-take, get_or-drop, get_or-append-add}
use lib.IntN.{ℤ, pos, negsuc}
use lib.Dec.{leb, ltb}
use borrow.Author.Tests.{leb-true, leb-false, ltb-true, ltb-false, le-leb, lt-leb}
use Rattle.semantics.specs.Text.{Bytes, big_endian}
use Rattle.semantics.specs.Fold.{bits64}
use Rattle.semantics.specs.Array.{lowest}
use Rattle.semantics.specs.Image.{written}
use Rattle.semantics.specs.Demand.{lies_in}

-- byte p where the bytes ys stand from o on, among zeros
unfoldable pub shifted : ℕ → Bytes → ℕ → ℕ
shifted o ys p = cond (leb o p) (get_or ys (p - o) 0) 0

pub shifted-below : (o : ℕ) (ys : Bytes) (p : ℕ) → p < o → shifted o ys p ≡ 0
unfolding shifted
shifted-below o ys p h = rw (lt-leb o p h)

pub shifted_at : (o : ℕ) (ys : Bytes) (p : ℕ) → o ≤ p → shifted o ys p ≡ get_or ys (p - o) 0
unfolding shifted
shifted_at o ys p h = rw (le-leb o p h)

pub shifted_past : (o : ℕ) (ys : Bytes) (p : ℕ) → o + length ys ≤ p → shifted o ys p ≡ 0
shifted_past o ys p h = shifted_at o ys p (omega arith) ∙ get_or-eq_default ys 0 (omega arith)

pub shifted-nil : (o p : ℕ) → shifted o [] p ≡ 0
shifted-nil o p = go (leb o p) refl
  where
    go : (b : Bool) → leb o p ≡ b → shifted o [] p ≡ 0
    go true e = shifted_at o [] p (leb-true o p e)
    go false e = shifted-below o [] p (leb-false o p e)

-- element p of joined lists
pub get_or-first : (xs ys : Bytes) (p : ℕ) → p < length xs → get_or (xs ++ ys) p 0 ≡ get_or xs p 0
get_or-first xs ys p h = get_or-append xs ys 0 p h

pub get_or-second : (xs ys : Bytes) (p : ℕ) → length xs ≤ p → get_or (xs ++ ys) p 0 ≡ get_or ys (p - length xs) 0
get_or-second xs ys p h =
    let e : p ≡ length xs + (p - length xs) = omega arith in
    ap (λ (n : ℕ). get_or (xs ++ ys) n 0) e ∙ get_or-append-add xs ys (p - length xs) 0

pub shifted-append : (o : ℕ) (xs ys : Bytes) (p : ℕ) → shifted o (xs ++ ys) p ≡ shifted o xs p + shifted (o + length xs) ys p
shifted-append o xs ys p = go (leb o p) refl (ltb p (o + length xs)) refl
  where
    go : (a : Bool) → leb o p ≡ a → (b : Bool) → ltb p (o + length xs) ≡ b → shifted o (xs ++ ys) p ≡ shifted o xs p + shifted (o + length xs) ys p
    go false e b f =
        let l = leb-false o p e in
        let m : p < o + length xs = omega arith in
        rw (shifted-below o (xs ++ ys) p l, shifted-below o xs p l, shifted-below (o + length xs) ys p m)
    go true e true f =
        let l = leb-true o p e in
        let m = ltb-true p (o + length xs) f in
        rw (shifted_at o (xs ++ ys) p l, shifted_at o xs p l, shifted-below (o + length xs) ys p m, get_or-first xs ys (p - o) (omega arith), add-zero)
    go true e false f =
        let l = leb-true o p e in
        let m = ltb-false p (o + length xs) f in
        let n : p - o - length xs ≡ p - (o + length xs) = omega arith in
        rw (shifted_at o (xs ++ ys) p l, shifted_past o xs p m, shifted_at (o + length xs) ys p m, get_or-second xs ys (p - o) (omega arith), n, zero-add)

-- bytes written inside, over zeros
module _ (xs : Bytes) (o : ℕ) (ys : Bytes) (fits : o + length ys ≤ length xs) where
  pub written_is : written xs o ys ≡ take o xs ++ (ys ++ drop (o + length ys) xs)
  written_is =
      let e : o - length xs ≡ 0 = omega arith in
      ap (λ (n : ℕ). take o (xs ++ replicate n 0) ++ (ys ++ drop (o + length ys) xs)) e ∙ ap (λ (zs : Bytes). take o zs ++ (ys ++ drop (o + length ys) xs)) (append-nil xs)

  front : length (take o xs) ≡ o
  front = length-take-le o xs (omega arith)

  pub length-written : length (written xs o ys) ≡ length xs
  length-written =
      let f = front in
      ap length written_is ∙ simp (length-append, length-drop) (omega arith)

  pub written-adds : ((p : ℕ) → o ≤ p → get_or xs p 0 ≡ 0) → (p : ℕ) → get_or (written xs o ys) p 0 ≡ get_or xs p 0 + shifted o ys p
  written-adds z p = ap (λ (zs : Bytes). get_or zs p 0) written_is ∙ go (ltb p o) refl (ltb p (o + length ys)) refl
    where
      go : (a : Bool) → ltb p o ≡ a → (b : Bool) → ltb p (o + length ys) ≡ b
          → get_or (take o xs ++ (ys ++ drop (o + length ys) xs)) p 0 ≡ get_or xs p 0 + shifted o ys p
      go true e b f =
          let l = ltb-true p o e in
          let q = front in
          get_or-first (take o xs) (ys ++ drop (o + length ys) xs) p (omega arith)
          ∙ get_or-take o xs p 0 l ∙ rw (shifted-below o ys p l, add-zero)
      go false e true f =
          let l = ltb-false p o e in
          let m = ltb-true p (o + length ys) f in
          let q = front in
          get_or-second (take o xs) (ys ++ drop (o + length ys) xs) p (omega arith)
          ∙ ap (λ (n : ℕ). get_or (ys ++ drop (o + length ys) xs) (p - n) 0) q
          ∙ get_or-first ys (drop (o + length ys) xs) (p - o) (omega arith)
          ∙ rw (z p l, shifted_at o ys p l, zero-add)
      go false e false f =
          let l = ltb-false p o e in
          let m = ltb-false p (o + length ys) f in
          let q = front in
          let n : o + length ys + (p - o - length ys) ≡ p = omega arith in
          get_or-second (take o xs) (ys ++ drop (o + length ys) xs) p (omega arith)
          ∙ ap (λ (n : ℕ). get_or (ys ++ drop (o + length ys) xs) (p - n) 0) q
          ∙ get_or-second ys (drop (o + length ys) xs) (p - o) (omega arith)
          ∙ get_or-drop (o + length ys) xs (p - o - length ys) 0
          ∙ ap (λ (n : ℕ). get_or xs n 0) n
          ∙ rw (shifted_past o ys p m, add-zero)

-- one layer over the rest
pub layer : (p o n : ℕ) (ys : Bytes) (rest : ℕ) → length ys ≤ n → (p < o + n → rest ≡ 0) → shifted o ys p + rest ≡ cond (lies_in p o n) (get_or ys (p - o) 0) rest
layer p o n ys rest h z = go (leb o p) refl (ltb p (o + n)) refl
  where
    go : (a : Bool) → leb o p ≡ a → (b : Bool) → ltb p (o + n) ≡ b → shifted o ys p + rest ≡ cond (a && b) (get_or ys (p - o) 0) rest
    go false e b f = rw (shifted-below o ys p (leb-false o p e), zero-add)
    go true e true f = rw (shifted_at o ys p (leb-true o p e), z (ltb-true p (o + n) f), add-zero)
    go true e false f = let m = ltb-false p (o + n) f in rw (shifted_past o ys p (omega arith), zero-add)

pub lies-below : (p o n : ℕ) → p < o → lies_in p o n ≡ false
lies-below p o n h = rw (lt-leb o p h)

-- zeros added behind
pub get_or-zeros : (xs : Bytes) (n p : ℕ) → get_or (xs ++ replicate n 0) p 0 ≡ get_or xs p 0
get_or-zeros xs n p = go (ltb p (length xs)) refl (ltb (p - length xs) n) refl
  where
    go : (a : Bool) → ltb p (length xs) ≡ a → (b : Bool) → ltb (p - length xs) n ≡ b → get_or (xs ++ replicate n 0) p 0 ≡ get_or xs p 0
    go true e b f = get_or-first xs (replicate n 0) p (ltb-true p (length xs) e)
    go false e true f =
        let l = ltb-false p (length xs) e in
        get_or-second xs (replicate n 0) p l ∙ get_or-replicate n (p - length xs) 0 0 (ltb-true (p - length xs) n f) ∙ sym (get_or-eq_default xs 0 l)
    go false e false f =
        let l = ltb-false p (length xs) e in
        let m = ltb-false (p - length xs) n f in
        get_or-second xs (replicate n 0) p l ∙ get_or-eq_default (replicate n 0) 0 (rw length-replicate m) ∙ sym (get_or-eq_default xs 0 l)

-- the low 32 bits
pub low-bytes : (a b : ℕ) → a % 4294967296 ≡ b % 4294967296 → big_endian 4 a ≡ big_endian 4 b
unfolding big_endian
low-bytes a b h =
    let p : a / 16777216 % 256 ≡ b / 16777216 % 256 = omega arith in
    let q : a / 65536 % 256 ≡ b / 65536 % 256 = omega arith in
    let r : a / 256 % 256 ≡ b / 256 % 256 = omega arith in
    let s : a / 1 % 256 ≡ b / 1 % 256 = omega arith in
    λ i. p i ∷ q i ∷ r i ∷ s i ∷ []

pub word-bytes : (z : ℤ) → big_endian 4 (bits64 (lowest 31 z)) ≡ big_endian 4 (bits64 z)
word-bytes (pos n) = low-bytes (bits64 (lowest 31 (pos n))) (bits64 (pos n)) (go (ltb (n % 4294967296) 2147483648) refl)
  where
    go : (b : Bool) → ltb (n % 4294967296) 2147483648 ≡ b
        → bits64 (cond b (pos (n % 4294967296)) (negsuc (4294967295 - n % 4294967296))) % 4294967296 ≡ n % 18446744073709551616 % 4294967296
    go true e = omega arith
    go false e = omega arith
word-bytes (negsuc n) = low-bytes (bits64 (lowest 31 (negsuc n))) (bits64 (negsuc n)) (go (ltb (4294967295 - n % 4294967296) 2147483648) refl)
  where
    go : (b : Bool) → ltb (4294967295 - n % 4294967296) 2147483648 ≡ b
        → bits64 (cond b (pos (4294967295 - n % 4294967296)) (negsuc (4294967295 - (4294967295 - n % 4294967296)))) % 4294967296 ≡ (18446744073709551615 - n % 18446744073709551616) % 4294967296
    go true e = omega arith
    go false e = omega arith

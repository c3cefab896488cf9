-- Laws of comparing bytes, of digests, and of reading eight bytes.
use mathlib.Core.Path.{◌≡◌, refl, sym, ap, ◌∙◌}
use mathlib.Core.Bool.{Bool, true, false, ◌&&◌, false≢true}
use mathlib.Core.List.{[], ◌∷◌, ◌++◌}
use Prim.Native.Nat.{ℕ, suc, ◌+◌, ◌-◌, ◌*◌, ◌%◌, ◌≤◌, ◌<◌}
use native.Mathlib.Omega.{arith}
use native.Mathlib.Numerals.{add-one}
use lib.Dec.{eqb}
use Rattle.std.specs.Cmp.Lexicographic.{pointwise}
use lib.ListN.{length, take, drop, get_or, drop_of_length-le}
use lib.Seq.{drop-cons}
use borrow.Author.Tests.{eqb-true}
use Rattle.semantics.specs.Text.{Bytes, same, from_big_endian}
use Rattle.words.specs.Words.{digest_from, digest}

-- ---- two texts

pub same_length : (a b : Bytes) → (length a ≡ length b → ⊥) → same a b ≡ false
same_length [] [] h = absurd (h refl)
same_length [] (y ∷ b) h = refl
same_length (x ∷ a) [] h = refl
same_length (x ∷ a) (y ∷ b) h = go (eqb x y) (same_length a b (λ e. h (ap suc e)))
  where
    go : (t : Bool) → same a b ≡ false → t && same a b ≡ false
    go true e = e
    go false e = refl

pub equal_same : (a b : Bytes) → pointwise eqb a b ≡ same a b
equal_same [] [] = refl
equal_same [] (y ∷ b) = refl
equal_same (x ∷ a) [] = refl
equal_same (x ∷ a) (y ∷ b) = ap (λ (t : Bool). eqb x y && t) (equal_same a b)

-- ---- the digest of a text

pub digest-next : (s : Bytes) (i h : ℕ) {b : ℕ} → i < length s → b ≡ get_or s i 0 → digest_from h (drop i s) ≡ digest_from ((h * 185 + b) % 256) (drop (i + 1) s)
unfolding digest_from
digest-next s i h l e = rw (add-one, drop-cons s i 0 l, e)

pub digest-end : (s : Bytes) (i h : ℕ) {d : ℕ} → length s ≤ i → d ≡ digest_from h (drop i s) → h ≡ d
unfolding digest_from
digest-end s i h l e = sym (e ∙ rw (drop_of_length-le s {i = i} l))

pub digest-same : (a b : Bytes) (h : ℕ) → same a b ≡ true → digest_from h a ≡ digest_from h b
unfolding digest_from
digest-same [] [] h e = refl
digest-same [] (y ∷ b) h e = absurd (false≢true e)
digest-same (x ∷ a) [] h e = absurd (false≢true e)
digest-same (x ∷ a) (y ∷ b) h e = go (eqb x y) refl e (λ k f. digest-same a b k f)
  where
    go : (t : Bool) → eqb x y ≡ t → t && same a b ≡ true → ((k : ℕ) → same a b ≡ true → digest_from k a ≡ digest_from k b) → digest_from ((h * 185 + x) % 256) a ≡ digest_from ((h * 185 + y) % 256) b
    go true q f ih = rw (eqb-true x y q) (ih ((h * 185 + y) % 256) f)
    go false q f ih = absurd (false≢true f)

-- texts with different digests are different
pub digest-apart : (a b : Bytes) → (digest a ≡ digest b → ⊥) → false ≡ same a b
digest-apart a b n = go (same a b) refl
  where
    go : (t : Bool) → same a b ≡ t → false ≡ t
    go true q = absurd (n (digest-same a b 0 q))
    go false q = refl

pub digest-append : (a b : Bytes) (h : ℕ) → digest_from h (a ++ b) ≡ digest_from (digest_from h a) b
unfolding digest_from
digest-append [] b h = refl
digest-append (x ∷ a) b h = digest-append a b ((h * 185 + x) % 256)

-- ---- 8 bytes as a number

pub bits-next : (t : Bytes) (a k acc : ℕ) → k < 8 → a + 8 ≤ length t
    → from_big_endian acc (take (8 - k) (drop (a + k) t)) ≡ from_big_endian (acc * 256 + get_or t (a + k) 0) (take (8 - (k + 1)) (drop (a + (k + 1)) t))
bits-next t a k acc h room =
    let e : 8 - k ≡ suc (8 - (k + 1)) = omega arith in
    let f : suc (a + k) ≡ a + (k + 1) = omega arith in
    rw (e, drop-cons t (a + k) 0 (omega arith), f)

pub bits-start : (t : Bytes) (a : ℕ) → from_big_endian 0 (take 8 (drop a t)) ≡ from_big_endian 0 (take (8 - 0) (drop (a + 0) t))
bits-start t a = let e : a + 0 ≡ a = omega arith in rw e

pub bits-end : (t : Bytes) (a k acc : ℕ) {b : ℕ} → 8 ≤ k → b ≡ from_big_endian acc (take (8 - k) (drop (a + k) t)) → acc ≡ b
bits-end t a k acc h e = let z : 8 - k ≡ 0 = omega arith in sym (e ∙ rw z)

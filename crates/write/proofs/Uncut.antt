-- Written numbers hold neither comma nor LF, so that they are read again as the parts that they were.
use Prim.Native.Nat.{ℕ, zero, suc, ◌+◌, ◌/◌, ◌%◌, ◌≤◌, ◌<◌}
use mathlib.Core.Path.{◌≡◌, refl}
use mathlib.Core.Bool.{Bool, true, false, cond, ◌&&◌}
use mathlib.Core.List.{[], ◌∷◌, ◌++◌}
use native.Mathlib.Nat.{le_refl}
use native.Mathlib.Omega.{arith}
use lib.Dec.{ltb}
use lib.IntN.{ℤ, pos, negsuc}
use borrow.Author.Tests.{lt-ltb, eq-eqb, ne_eqb, ltb-true, ltb-false}
use Rattle.semantics.specs.Text.{Bytes, parts_at, decimal, decimalℤ, hex_digit, hex_of}
use Rattle.semantics.proofs.Common.{never}
use Rattle.write.specs.Plain.{is_plain_text}
use Rattle.write.proofs.Decimal.{decimal-one, decimal-more}

pub plain-append : (s t : Bytes) → is_plain_text s ≡ true → is_plain_text t ≡ true → is_plain_text (s ++ t) ≡ true
unfolding is_plain_text
plain-append [] t h k = k
plain-append (b ∷ s) t h k = go (ltb 44 b) refl h (λ l. plain-append s t l k)
  where
    go : (x : Bool) → ltb 44 b ≡ x → x && is_plain_text s ≡ true → (is_plain_text s ≡ true → is_plain_text (s ++ t) ≡ true) → ltb 44 b && is_plain_text (s ++ t) ≡ true
    go true e h ih = rw e (ih h)
    go false e h ih = never cc

plain-one : (b : ℕ) → 44 < b → is_plain_text (b ∷ []) ≡ true
unfolding is_plain_text
plain-one b h = rw (lt-ltb 44 b h)

-- t says whether n is one digit, and f bounds n
digits-plain : (f n : ℕ) (t : Bool) → ltb n 10 ≡ t → n ≤ f → is_plain_text (decimal n) ≡ true
digits-plain zero n true e h = rw (decimal-one n (ltb-true n 10 e)) (plain-one (48 + n) (omega arith))
digits-plain (suc f) n true e h = rw (decimal-one n (ltb-true n 10 e)) (plain-one (48 + n) (omega arith))
digits-plain zero n false e h = let g = ltb-false n 10 e in absurd (omega arith)
digits-plain (suc f) n false e h =
    let g = ltb-false n 10 e in
    rw (decimal-more n g) (plain-append (decimal (n / 10)) ((48 + n % 10) ∷ []) (digits-plain f (n / 10) (ltb (n / 10) 10) refl (omega arith)) (plain-one (48 + n % 10) (omega arith)))

pub decimal-plain : (n : ℕ) → is_plain_text (decimal n) ≡ true
decimal-plain n = digits-plain n n (ltb n 10) refl (le_refl n)

pub integer-plain : (z : ℤ) → is_plain_text (decimalℤ z) ≡ true
unfolding is_plain_text decimalℤ
integer-plain (pos n) = decimal-plain n
integer-plain (negsuc n) = decimal-plain (suc n)

pub hex-plain : (bs : Bytes) → is_plain_text (hex_of bs) ≡ true
unfolding is_plain_text hex_of
hex-plain [] = refl
hex-plain (b ∷ bs) = rw (digit (b / 16), digit (b % 16)) (hex-plain bs)
  where
    digit : (d : ℕ) → ltb 44 (hex_digit d) ≡ true
    digit d = go (ltb d 10)
      where
        go : (t : Bool) → ltb 44 (cond t (48 + d) (55 + d)) ≡ true
        go true = lt-ltb 44 (48 + d) (omega arith)
        go false = lt-ltb 44 (55 + d) (omega arith)

-- a plain text before a comma or LF, or at the end, is one part
module _ (c : ℕ) (low : c ≤ 44) where
  pub plain-part : (t u : Bytes) → is_plain_text t ≡ true → parts_at c (t ++ (c ∷ u)) ≡ t ∷ parts_at c u
  unfolding is_plain_text
  plain-part [] u h = rw (eq-eqb c c refl)
  plain-part (b ∷ t) u h = go (ltb 44 b) refl h (λ l. plain-part t u l)
    where
      go : (x : Bool) → ltb 44 b ≡ x → x && is_plain_text t ≡ true → (is_plain_text t ≡ true → parts_at c (t ++ (c ∷ u)) ≡ t ∷ parts_at c u) → parts_at c (b ∷ (t ++ (c ∷ u))) ≡ (b ∷ t) ∷ parts_at c u
      go true e h ih = let l = ltb-true 44 b e in rw (ne_eqb b c (λ (q : b ≡ c). omega arith), ih h)
      go false e h ih = never cc

  pub plain-last : (t : Bytes) → is_plain_text t ≡ true → parts_at c t ≡ t ∷ []
  unfolding is_plain_text
  plain-last [] h = refl
  plain-last (b ∷ t) h = go (ltb 44 b) refl h (λ l. plain-last t l)
    where
      go : (x : Bool) → ltb 44 b ≡ x → x && is_plain_text t ≡ true → (is_plain_text t ≡ true → parts_at c t ≡ t ∷ []) → parts_at c (b ∷ t) ≡ (b ∷ t) ∷ []
      go true e h ih = let l = ltb-true 44 b e in rw (ne_eqb b c (λ (q : b ≡ c). omega arith), ih h)
      go false e h ih = never cc

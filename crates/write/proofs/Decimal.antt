-- Laws of decimal numbers: a number's digits are those of its tenth part, and one more.
use Prim.Native.Nat.{ℕ, zero, suc, ◌+◌, ◌*◌, ◌/◌, ◌%◌, ◌^◌, ◌≤◌, ◌<◌}
use mathlib.Core.Path.{◌≡◌, refl, sym, ap, ◌∙◌}
use mathlib.Core.Bool.{Bool, true, false}
use mathlib.Core.List.{[], ◌∷◌, ◌++◌, append_assoc}
use native.Mathlib.Nat.{pow-suc}
use native.Mathlib.Omega.{arith}
use lib.Dec.{ltb}
use lib.ListN.{length, length-append}
use borrow.Author.Tests.{lt-ltb, le-ltb, ltb-true, ltb-false}
use Rattle.semantics.specs.Text.{Bytes, digits_from, decimal}

digits-behind : (k n : ℕ) (t : Bool) (acc : Bytes) → digits_from k t n acc ≡ digits_from k t n [] ++ acc
digits-behind zero n t acc = refl
digits-behind (suc k) n true acc = refl
digits-behind (suc k) n false acc =
    digits-behind k (n / 10) (ltb (n / 10) 10) ((48 + n % 10) ∷ acc)
    ∙ sym (append_assoc (digits_from k (ltb (n / 10) 10) (n / 10) []) ((48 + n % 10) ∷ []) acc)
    ∙ ap (λ (l : Bytes). l ++ acc) (sym (digits-behind k (n / 10) (ltb (n / 10) 10) ((48 + n % 10) ∷ [])))

-- any fuel above n gives the same digits
digits-fuel : (k j n : ℕ) (t : Bool) (acc : Bytes) → ltb n 10 ≡ t → n < k → n < j → digits_from k t n acc ≡ digits_from j t n acc
digits-fuel zero j n t acc e h l = absurd (omega arith)
digits-fuel (suc k) zero n t acc e h l = absurd (omega arith)
digits-fuel (suc k) (suc j) n true acc e h l = refl
digits-fuel (suc k) (suc j) n false acc e h l =
    let g : 10 ≤ n = ltb-false n 10 e in
    digits-fuel k j (n / 10) (ltb (n / 10) 10) ((48 + n % 10) ∷ acc) refl (omega arith) (omega arith)

pub decimal-one : (n : ℕ) → n < 10 → decimal n ≡ (48 + n) ∷ []
unfolding decimal
decimal-one n h = rw (lt-ltb n 10 h)

pub decimal-more : (n : ℕ) → 10 ≤ n → decimal n ≡ decimal (n / 10) ++ ((48 + n % 10) ∷ [])
unfolding decimal
decimal-more n h =
    rw (le-ltb n 10 h)
    (digits-fuel n (suc (n / 10)) (n / 10) (ltb (n / 10) 10) ((48 + n % 10) ∷ []) refl (omega arith) (omega arith)
    ∙ digits-behind (suc (n / 10)) (n / 10) (ltb (n / 10) 10) ((48 + n % 10) ∷ []))

-- a number below 10 ^ suc k has no more digits than that
pub decimal-short : (k n : ℕ) → n < 10 ^ suc k → length (decimal n) ≤ suc k
decimal-short k n h = few k n (ltb n 10) refl h
  where
    few : (k n : ℕ) (b : Bool) → ltb n 10 ≡ b → n < 10 ^ suc k → length (decimal n) ≤ suc k
    few zero n true e h = rw (decimal-one n (ltb-true n 10 e)) (omega arith)
    few (suc k) n true e h = rw (decimal-one n (ltb-true n 10 e)) (omega arith)
    few zero n false e h = let l = ltb-false n 10 e in absurd (omega arith)
    few (suc k) n false e h =
        let l = ltb-false n 10 e in
        let q : n < 10 ^ suc k * 10 = rw (pow-suc 10 (suc k)) at h in
        rw (decimal-more n l) (omega (arith, length-append (decimal (n / 10)) ((48 + n % 10) ∷ []), few k (n / 10) (ltb (n / 10) 10) refl (tenth n (10 ^ suc k) q)))
      where
        tenth : (n m : ℕ) → n < m * 10 → n / 10 < m
        tenth n m h = omega arith

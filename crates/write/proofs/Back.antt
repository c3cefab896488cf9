-- What was written is read back as it was.
use Prim.Native.Nat.{ℕ, zero, suc, ◌+◌, ◌-◌, ◌*◌, ◌/◌, ◌%◌, ◌^◌, ◌≤◌, ◌<◌}
use mathlib.Core.Path.{◌≡◌, refl, sym, ap, ◌∙◌}
use mathlib.Core.Bool.{Bool, true, false, cond}
use mathlib.Core.List.{[], ◌∷◌, ◌++◌, append_assoc, append-nil}
use Rattle.std.specs.Prelude.{Some}
use native.Mathlib.Nat.{le_refl, add-mul, add_assoc, mul_assoc, mul_comm, mul-one, zero-add, mod-one, add-zero, pow-suc}
use native.Mathlib.Omega.{arith}
use lib.Dec.{ltb}
use lib.IntN.{ℤ, pos, negsuc}
use lib.ListN.{get_or}
use lib.Pow.{mod-pow-add}
use borrow.Author.Tests.{le-leb, lt-leb, ne_eqb, ltb-true, ltb-false}
use Rattle.semantics.specs.Text.{Bytes, digits_value, nat_of, int_of, negative, map_option, decimal, decimalℤ, hex_digit, hex_value, hex_of, unhex, big_endian, from_big_endian}
use Rattle.write.proofs.Decimal.{decimal-one, decimal-more}
use Rattle.write.proofs.Hex.{power}

-- ---- decimal numbers

digit-back : (acc d : ℕ) (rest : Bytes) → d < 10 → digits_value acc ((48 + d) ∷ rest) ≡ digits_value (acc * 10 + d) rest
digit-back acc d rest h =
    let e : 48 + d - 48 ≡ d = omega arith in
    simp (le-leb 48 (48 + d) (omega arith), le-leb (48 + d) 57 (omega arith), e)

one-back : (n : ℕ) (rest : Bytes) → n < 10 → digits_value 0 (decimal n ++ rest) ≡ digits_value n rest
one-back n rest h = rw (decimal-one n h) (digit-back 0 n rest h ∙ rw zero-add)

-- the digits of n, with more behind them; t says whether n is one digit, and f bounds n
digits-back : (f n : ℕ) (rest : Bytes) (t : Bool) → ltb n 10 ≡ t → n ≤ f → digits_value 0 (decimal n ++ rest) ≡ digits_value n rest
digits-back zero n rest true e h = one-back n rest (ltb-true n 10 e)
digits-back (suc f) n rest true e h = one-back n rest (ltb-true n 10 e)
digits-back zero n rest false e h = let g = ltb-false n 10 e in absurd (omega arith)
digits-back (suc f) n rest false e h =
    let g = ltb-false n 10 e in
    let w : n / 10 * 10 + n % 10 ≡ n = omega arith in
    rw (decimal-more n g, append_assoc)
    (digits-back f (n / 10) ((48 + n % 10) ∷ rest) (ltb (n / 10) 10) refl (omega arith) ∙ digit-back (n / 10) (n % 10) rest (omega arith) ∙ ap (λ (k : ℕ). digits_value k rest) w)

-- a number's first digit, which is 0 for 0 alone
Headed : ℕ → Type 0
Headed n = (c : ℕ) × (cs : Bytes) × (decimal n ≡ c ∷ cs) × (48 ≤ c) × (0 < n → 48 < c)

headed : (f n : ℕ) (t : Bool) → ltb n 10 ≡ t → n ≤ f → Headed n
unfolding Headed
headed zero n true e b = (48 + n, [], decimal-one n (ltb-true n 10 e), omega arith, λ h. omega arith)
headed (suc f) n true e b = (48 + n, [], decimal-one n (ltb-true n 10 e), omega arith, λ h. omega arith)
headed zero n false e b = let g = ltb-false n 10 e in absurd (omega arith)
headed (suc f) n false e b =
    let g = ltb-false n 10 e in
    let r = headed f (n / 10) (ltb (n / 10) 10) refl (omega arith) in
    (r.0, r.1 ++ ((48 + n % 10) ∷ []), decimal-more n g ∙ ap (λ (t : Bytes). t ++ ((48 + n % 10) ∷ [])) r.2, r.3, λ h. r.4 (omega arith))

head_of : (n : ℕ) → Headed n
head_of n = headed n n (ltb n 10) refl (le_refl n)

nat-plain : (c : ℕ) (cs : Bytes) → (c ≡ 48 → ⊥) → nat_of (c ∷ cs) ≡ digits_value 0 (c ∷ cs)
unfolding nat_of
nat-plain c [] n = refl
nat-plain c (d ∷ ds) n = simp (ne_eqb c 48 n)

pub nat-back : (n : ℕ) → nat_of (decimal n) ≡ Some n
unfolding nat_of Headed
nat-back zero = rw (decimal-one 0 (omega arith))
nat-back (suc n) =
    let r = head_of (suc n) in
    let g = r.4 (omega arith) in
    ap nat_of r.2
    ∙ nat-plain r.0 r.1 (λ (e : r.0 ≡ 48). omega arith)
    ∙ ap (digits_value 0) (sym r.2 ∙ sym (append-nil (decimal (suc n))))
    ∙ digits-back (suc n) (suc n) [] (ltb (suc n) 10) refl (le_refl (suc n))

pub int-back : (z : ℤ) → int_of (decimalℤ z) ≡ Some z
unfolding int_of decimalℤ Headed
int-back (pos n) =
    let r = head_of n in
    let g = r.3 in
    ap int_of r.2
    ∙ simp (ne_eqb r.0 45 (λ (e : r.0 ≡ 45). omega arith)) (ap (λ (t : Bytes). map_option pos (nat_of t)) (sym r.2) ∙ ap (map_option pos) (nat-back n))
int-back (negsuc n) = ap negative (nat-back (suc n))

-- ---- hexadecimal digits

hex-digit-back : (d : ℕ) → d < 16 → hex_value (hex_digit d) ≡ Some d
hex-digit-back d h = go (ltb d 10) refl
  where
    go : (t : Bool) → ltb d 10 ≡ t → hex_value (cond t (48 + d) (55 + d)) ≡ Some d
    go true e =
        let l = ltb-true d 10 e in
        let w : 48 + d - 48 ≡ d = omega arith in
        simp (le-leb 48 (48 + d) (omega arith), le-leb (48 + d) 57 (omega arith), w)
    go false e =
        let l = ltb-false d 10 e in
        let w : 55 + d - 55 ≡ d = omega arith in
        simp (le-leb 48 (55 + d) (omega arith), lt-leb (55 + d) 57 (omega arith), le-leb 65 (55 + d) (omega arith), le-leb (55 + d) 70 (omega arith), w)

pub hex-back : (bs : Bytes) → ((k : ℕ) → get_or bs k 0 < 256) → unhex (hex_of bs) ≡ Some bs
unfolding hex_of unhex
hex-back [] h = refl
hex-back (b ∷ bs) h =
    let l : b < 256 = h 0 in
    let w : b / 16 * 16 + b % 16 ≡ b = omega arith in
    simp (hex-digit-back (b / 16) (omega arith), hex-digit-back (b % 16) (omega arith), hex-back bs (λ k. h (suc k)), w)

-- ---- a number's bytes

bytes_back : (k a n : ℕ) → from_big_endian a (big_endian k n) ≡ a * 256 ^ k + n % 256 ^ k
unfolding big_endian
bytes_back zero a n = sym (rw (mod-one n, mul-one) (add-zero a))
bytes_back (suc k) a n =
    let q : 8 * suc k ≡ 8 + 8 * k = omega arith in
    let m : n % 256 ^ suc k ≡ n / 256 ^ k % 256 * 256 ^ k + n % 256 ^ k = rw (power (suc k), q, power k) (mod-pow-add n 8 (8 * k)) in
    bytes_back k (a * 256 + n / 256 ^ k % 256) n
    ∙ rw (m, add-mul, add_assoc, pow-suc, mul_assoc) (ap (λ (p : ℕ). a * p + (n / 256 ^ k % 256 * 256 ^ k + n % 256 ^ k)) (mul_comm 256 (256 ^ k)))

pub bits_back : (n : ℕ) → n < 2 ^ 64 → from_big_endian 0 (big_endian 8 n) ≡ n
bits_back n h = bytes_back 8 0 n ∙ omega arith

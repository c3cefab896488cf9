-- Laws of hexadecimal digits.
use Prim.Native.Nat.{ℕ, zero, suc, ◌+◌, ◌*◌, ◌^◌, ◌≤◌, ◌<◌}
use mathlib.Core.Path.{◌≡◌, refl, sym, ap, ◌∙◌}
use mathlib.Core.List.{[], ◌∷◌}
use Rattle.std.specs.Prelude.{Option, None, Some}
use Rattle.std.specs.Option.{option_and_then}
use native.Mathlib.Numerals.{add-one, add-one-le}
use native.Mathlib.Nat.{pow-suc, lt_of_lt_of_le, pow-le-pow_right}
use native.Mathlib.Omega.{arith}
use lib.Dec.{lit<}
use lib.ListN.{length, drop, get_or, drop_of_length-le, get_or-eq_default}
use lib.Seq.{drop-cons}
use borrow.Author.Tests.{eq-eqb, ne_eqb}
use Rattle.semantics.specs.Text.{Bytes, map_option, hex_value, hex_pair, unhex}
use Rattle.semantics.proofs.Common.{never}
use Rattle.hex_field.specs.Hex.{pair_byte, pair_at, byte_at, eight_bytes, bits64_of, bits64_from}

-- ---- pairs of digits

pair-opens : (x y : Option ℕ) (o : Option Bytes) → (pair_byte x y ≡ None → hex_pair x y o ≡ None) × ((v : ℕ) → pair_byte x y ≡ Some v → hex_pair x y o ≡ map_option (λ (bs : Bytes). v ∷ bs) o)
pair-opens None y o = (λ e. refl, λ v e. never cc)
pair-opens (Some m) None o = (λ e. refl, λ v e. never cc)
pair-opens (Some m) (Some n) None = (λ e. refl, λ v e. refl)
pair-opens (Some m) (Some n) (Some bs) = (λ e. never cc, λ v e. cc)

module _ (s : Bytes) (i : ℕ) (h : i + 1 < length s) where
  two : drop i s ≡ get_or s i 0 ∷ (get_or s (i + 1) 0 ∷ drop (i + 2) s)
  two =
      let e : suc i ≡ i + 1 = omega arith in
      let f : suc (i + 1) ≡ i + 2 = omega arith in
      drop-cons s i 0 (omega arith)
      ∙ ap (λ (l : Bytes). get_or s i 0 ∷ l) (ap (λ (j : ℕ). drop j s) e ∙ drop-cons s (i + 1) 0 h ∙ ap (λ (j : ℕ). get_or s (i + 1) 0 ∷ drop j s) f)

  pub unhex-bad : pair_at s i ≡ None → unhex (drop i s) ≡ None
  unfolding unhex
  unhex-bad z = rw two ((pair-opens (hex_value (get_or s i 0)) (hex_value (get_or s (i + 1) 0)) (unhex (drop (i + 2) s))).0 z)

  pub unhex-next : {v : ℕ} → pair_at s i ≡ Some v → unhex (drop i s) ≡ map_option (λ (bs : Bytes). v ∷ bs) (unhex (drop (i + 2) s))
  unfolding unhex
  unhex-next {v} z = rw two ((pair-opens (hex_value (get_or s i 0)) (hex_value (get_or s (i + 1) 0)) (unhex (drop (i + 2) s))).1 v z)

module _ (s : Bytes) (i : ℕ) where
  pub unhex-end : length s ≤ i → unhex (drop i s) ≡ Some []
  unfolding unhex
  unhex-end h = rw (drop_of_length-le s h)

  pub unhex-odd : i < length s → length s ≤ i + 1 → unhex (drop i s) ≡ None
  unfolding unhex
  unhex-odd h k =
      let e : drop i s ≡ get_or s i 0 ∷ [] = drop-cons s i 0 h ∙ ap (λ (l : Bytes). get_or s i 0 ∷ l) (drop_of_length-le s {i = suc i} (omega arith)) in
      rw e

-- ---- byte i

no_second : (x : Option ℕ) → pair_byte x None ≡ None
no_second None = refl
no_second (Some m) = refl

module _ (s : Bytes) (i : ℕ) where
  pub byte_past : length s ≤ 2 * i + 1 → None ≡ byte_at s i
  unfolding byte_at
  byte_past h = rw (get_or-eq_default s 0 h, no_second (hex_value (get_or s (2 * i) 0)))

-- the bytes behind two digits
unhex-tail : (x y : Option ℕ) (o : Option Bytes) (bs : Bytes) → hex_pair x y o ≡ Some bs → (v : ℕ) × (cs : Bytes) × (pair_byte x y ≡ Some v) × (o ≡ Some cs) × (bs ≡ v ∷ cs)
unhex-tail None y o bs e = never cc
unhex-tail (Some m) None o bs e = never cc
unhex-tail (Some m) (Some n) None bs e = never cc
unhex-tail (Some m) (Some n) (Some cs) bs e = let q : bs ≡ (m * 16 + n) ∷ cs = cc in (m * 16 + n, cs, refl, refl, q)

-- byte i of a good field is the byte at i of those that it writes
pub byte_of : (s bs : Bytes) (i : ℕ) → unhex s ≡ Some bs → i < length bs → byte_at s i ≡ Some (get_or bs i 0)
unfolding unhex byte_at
byte_of [] bs i e k = let q : [] ≡ bs = cc in absurd (omega (arith, ap length q))
byte_of (h ∷ []) bs i e k = never cc
byte_of (h ∷ (l ∷ ds)) bs zero e k = let t = unhex-tail (hex_value h) (hex_value l) (unhex ds) bs e in t.2 ∙ ap (λ (l : Bytes). Some (get_or l 0 0)) (sym t.4)
byte_of (h ∷ (l ∷ ds)) bs (suc i) e k =
    let t = unhex-tail (hex_value h) (hex_value l) (unhex ds) bs e in
    let q : 2 * suc i ≡ suc (suc (2 * i)) = omega arith in
    let r : suc (suc (2 * i)) + 1 ≡ suc (suc (2 * i + 1)) = omega arith in
    rw (q, r) (byte_of ds t.1 i t.3 (omega (arith, ap length t.4)) ∙ ap (λ (l : Bytes). Some (get_or l (suc i) 0)) (sym t.4))

-- ---- 64 bits

pub unhex-length : (s bs : Bytes) → unhex s ≡ Some bs → length s ≡ 2 * length bs
unfolding unhex
unhex-length [] bs e = let q : [] ≡ bs = cc in ap (λ (l : Bytes). 2 * length l) q
unhex-length (h ∷ []) bs e = never cc
unhex-length (h ∷ (l ∷ ds)) bs e =
    let t = unhex-tail (hex_value h) (hex_value l) (unhex ds) bs e in
    omega (arith, unhex-length ds t.1 t.3, ap length t.4)

pub bits-short : (s : Bytes) → (length s ≡ 16 → ⊥) → None ≡ bits64_of s
unfolding bits64_of
bits-short s n = go (unhex s) refl
  where
    go : (o : Option Bytes) → unhex s ≡ o → None ≡ option_and_then eight_bytes o
    go None e = refl
    go (Some bs) e = simp (ne_eqb (length bs) 8 (λ k. n (omega (arith, unhex-length s bs e))))

pub bits-start : (s : Bytes) → length s ≡ 16 → bits64_of s ≡ bits64_from 0 (unhex (drop 0 s))
unfolding bits64_of
bits-start s n = go (unhex s) refl
  where
    go : (o : Option Bytes) → unhex s ≡ o → option_and_then eight_bytes o ≡ bits64_from 0 o
    go None e = refl
    go (Some bs) e = simp (eq-eqb (length bs) 8 (omega (arith, unhex-length s bs e)))

module _ (s : Bytes) (k acc : ℕ) (h : 2 * k + 1 < length s) where
  pub bits-bad : pair_at s (2 * k) ≡ None → bits64_from acc (unhex (drop (2 * k) s)) ≡ None
  bits-bad z = rw (unhex-bad s (2 * k) h z)

  pub bits-next : {v : ℕ} → pair_at s (2 * k) ≡ Some v → bits64_from acc (unhex (drop (2 * k) s)) ≡ bits64_from (acc * 256 + v) (unhex (drop (2 * (k + 1)) s))
  bits-next {v} z =
      let q : 2 * k + 2 ≡ 2 * (k + 1) = omega arith in
      rw (unhex-next s (2 * k) h z) (rw q (go (unhex (drop (2 * (k + 1)) s))))
    where
      go : (o : Option Bytes) → bits64_from acc (map_option (λ (bs : Bytes). v ∷ bs) o) ≡ bits64_from (acc * 256 + v) o
      go None = refl
      go (Some bs) = refl

pub bits-end : (s : Bytes) (i acc : ℕ) → length s ≤ i → Some acc ≡ bits64_from acc (unhex (drop i s))
bits-end s i acc h = rw (unhex-end s i h)

-- k bytes are below 256 ^ k
pub bytes-grow : (acc k v : ℕ) → acc < 256 ^ k → v < 256 → acc * 256 + v < 256 ^ (k + 1)
bytes-grow acc k v h l = rw (add-one, pow-suc) (go (256 ^ k) h)
  where
    go : (p : ℕ) → acc < p → acc * 256 + v < p * 256
    go p q = omega arith

pub bytes_fit : (acc k v : ℕ) → acc < 256 ^ k → k < 8 → v < 256 → acc * 256 + v < 18446744073709551616
bytes_fit acc k v h m l = lt_of_lt_of_le (bytes-grow acc k v h l) (pow-le-pow_right (lit< tt) (add-one-le m))

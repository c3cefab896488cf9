-- Laws of fields: keys, integers of 64 bits, reals.
use mathlib.Core.Path.{◌≡◌, refl, sym, ap, ◌∙◌}
use mathlib.Core.Bool.{Bool, true, false, cond, ◌&&◌}
use mathlib.Core.List.{List, [], ◌∷◌}
use Rattle.std.specs.Prelude.{Option, None, Some}
use Rattle.std.specs.Option.{is_some, option_and_then}
use Prim.Native.Nat.{ℕ, suc, ◌+◌, ◌-◌, ◌%◌, ◌≤◌, ◌<◌}
use native.Mathlib.Omega.{arith}
use lib.Dec.{leb, ltb, eqb}
use lib.IntN.{ℤ}
use lib.ListN.{length, take, drop, length-drop}
use lib.Seq.{take_all}
use borrow.Author.Tests.{ltb-true, ltb-false}
use Rattle.semantics.specs.Text.{parts_at, holds_of, from_big_endian, or_else, nat_of, int_of, unhex, is_name}
use Rattle.semantics.specs.Form as Form
use Rattle.text.specs.Parts.{until}
use Rattle.decimal.specs.Number.{up_to, capped, number_up_to, whole, integer_of, is_between}
use Rattle.hex_field.specs.Hex.{eight_bytes, bits64_of}
use Rattle.text.proofs.Parts.{until-take, parts-step, parts-one}
use Rattle.form.specs.Letters.{is_key_field, is_real_field}

-- ---- NAME or NAME.NAME

key_more : (n m : List ℕ) (ps : List (List ℕ)) → 0 < length ps → Form.is_key (n ∷ (m ∷ ps)) ≡ false
key_more n m [] h = absurd (omega arith)
key_more n m (p ∷ ps) h = refl

parts-some : (c : ℕ) (s : List ℕ) → 0 < length (parts_at c s)
parts-some c s = go (ltb (length (until c s)) (length s)) refl
  where
    go : (t : Bool) → ltb (length (until c s)) (length s) ≡ t → 0 < length (parts_at c s)
    go true q = rw (parts-step c s (ltb-true (length (until c s)) (length s) q)) (omega arith)
    go false q = rw (parts-one c s (ltb-false (length (until c s)) (length s) q)) (omega arith)

module _ (s : List ℕ) (p : ℕ) (hp : p ≡ 0 + length (until 46 (drop 0 s))) where
  pub key_one : p ≡ length s → is_name s ≡ is_key_field s
  unfolding is_key_field
  key_one e = rw (parts-one 46 s (omega arith))

  module _ (q : ℕ) (low : (p ≡ length s → ⊥)) (within : p ≤ length s) (hq : q ≡ p + 1 + length (until 46 (drop (p + 1) s))) where
    split : parts_at 46 s ≡ until 46 s ∷ parts_at 46 (drop (p + 1) s)
    split =
        let e : suc (length (until 46 s)) ≡ p + 1 = omega arith in
        parts-step 46 s (omega arith) ∙ ap (λ (j : ℕ). until 46 s ∷ parts_at 46 (drop j s)) e

    pub key-three : q < length s → false ≡ is_key_field s
    unfolding is_key_field
    key-three l =
        let h : length (until 46 (drop (p + 1) s)) < length (drop (p + 1) s) = omega (arith, length-drop (p + 1) s) in
        sym (rw (split, parts-step 46 (drop (p + 1) s) h) (key_more (until 46 s) (until 46 (drop (p + 1) s)) (parts_at 46 (drop (suc (length (until 46 (drop (p + 1) s)))) (drop (p + 1) s))) (parts-some 46 (drop (suc (length (until 46 (drop (p + 1) s)))) (drop (p + 1) s)))))

    key-two : length s ≤ q → is_name (take (p - 0) (drop 0 s)) && is_name (take (q - (p + 1)) (drop (p + 1) s)) ≡ is_key_field s
    unfolding is_key_field
    key-two l =
        let h : length (drop (p + 1) s) ≤ length (until 46 (drop (p + 1) s)) = omega (arith, length-drop (p + 1) s) in
        let f : take (q - (p + 1)) (drop (p + 1) s) ≡ drop (p + 1) s = take_all (q - (p + 1)) (drop (p + 1) s) (omega (arith, length-drop (p + 1) s)) in
        let g : take (p - 0) s ≡ until 46 s = let e : p - 0 ≡ length (until 46 s) = omega arith in rw e (until-take 46 s) in
        rw (split, parts-one 46 (drop (p + 1) s) h, f, g)

    pub key-first : length s ≤ q → is_name (take (p - 0) (drop 0 s)) ≡ false → false ≡ is_key_field s
    key-first l e = rw e at (key-two l)

    pub key-last : length s ≤ q → is_name (take (p - 0) (drop 0 s)) ≡ true → is_name (take (q - (p + 1)) (drop (p + 1) s)) ≡ is_key_field s
    key-last l e = rw e at (key-two l)

-- ---- integers of 64 bits, and reals

pub is_i64_some : (s : List ℕ) → is_some (integer_of s) ≡ is_between 9223372036854775808 9223372036854775807 s
unfolding integer_of is_between
is_i64_some s = go (int_of s)
  where
    of : (b : Bool) (z : ℤ) → is_some (cond b (Some z) None) ≡ b
    of true z = refl
    of false z = refl

    go : (o : Option ℤ) → is_some (option_and_then whole o) ≡ holds_of (Form.between 9223372036854775808 9223372036854775807) o
    go None = refl
    go (Some z) = of (Form.between 9223372036854775808 9223372036854775807 z) z

pub is_real_bits : (s : List ℕ) {o : Option ℕ} → o ≡ bits64_of s → holds_of (λ (n : ℕ). leb (n % 9223372036854775808) 9218868437227405312) o ≡ is_real_field s
unfolding bits64_of is_real_field
is_real_bits s e = rw e (go (unhex s))
  where
    of : (b : Bool) (n : ℕ) → holds_of (λ (n : ℕ). leb (n % 9223372036854775808) 9218868437227405312) (cond b (Some n) None) ≡ b && Form.not_nan n
    of true n = refl
    of false n = refl

    go : (o : Option (List ℕ)) → holds_of (λ (n : ℕ). leb (n % 9223372036854775808) 9218868437227405312) (option_and_then eight_bytes o) ≡ holds_of Form.is_real_bytes o
    go None = refl
    go (Some bs) = of (eqb (length bs) 8) (from_big_endian 0 bs)

-- ---- numbers

pub number_told : (s : List ℕ) {o : Option ℕ} → o ≡ up_to 65536 (nat_of s) → (or_else 65537 o ≡ number_up_to 65536 s) × (or_else 65537 o ≤ 65537)
unfolding number_up_to
number_told s e = rw e (go (nat_of s))
  where
    go : (o : Option ℕ) → (or_else 65537 (up_to 65536 o) ≡ capped 65536 o) × (or_else 65537 (up_to 65536 o) ≤ 65537)
    go None = (refl, omega arith)
    go (Some n) = (refl, omega arith)

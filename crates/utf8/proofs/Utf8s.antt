-- Laws of UTF-8.
use Rattle.std.proofs.Common.{◌≡◌, ◌∙◌, refl, ℕ, ◌+◌, ◌*◌, ◌%◌, ◌≤◌, ◌<◌, ◌≢◌, Bool, true, false, cond, not, eqb, [], ◌∷◌, Option, Some, None, length, drop, arith}
use Rattle.std.specs.List.{count_by}
use Rattle.std.proofs.lemmas.List.Recursion.{is_count_by}
use Rattle.semantics.specs.Text.{Bytes, Lead, after_byte, goes_on, holds_of, in_range, map_option, unhex, is_utf8, characters}
use Rattle.hex_field.specs.Hex.{pair_at}
use Rattle.hex_field.proofs.Hexes.{unhex-bad, unhex-next, unhex-end, unhex-length}
use Rattle.utf8.specs.Utf8.{starts_one, is_text, text_from}

-- ---- hexadecimal digits

pub text_odd : (s : Bytes) → length s % 2 ≢ 0 → false ≡ is_text s
unfolding is_text
text_odd s h = go (unhex s) refl
  where
    go : (o : Option Bytes) → unhex s ≡ o → false ≡ holds_of is_utf8 o
    go None e = refl
    go (Some bs) e = absurd (h (omega (arith, unhex-length s bs e)))

pub text-start : (s : Bytes) → is_text s ≡ text_from (0, 0, 0) (drop 0 s)
unfolding is_text text_from is_utf8
text-start s = refl

pub none_goes_on : (bs : Bytes) → goes_on None bs ≡ false
none_goes_on [] = refl
none_goes_on (b ∷ bs) = none_goes_on bs

module _ (s : Bytes) (i : ℕ) (l : Lead) where
  pub text-end : length s ≤ i → text_from l (drop i s) ≡ eqb l.0 0
  unfolding text_from
  text-end h = rw (unhex-end s i h) refl

  module _ (h : 2 * i + 1 < length s) where
    pub text-bad : pair_at s (2 * i) ≡ None → text_from l (drop (2 * i) s) ≡ false
    unfolding text_from
    text-bad z = rw (unhex-bad s (2 * i) h z)

    behind : {v : ℕ} → pair_at s (2 * i) ≡ Some v → text_from l (drop (2 * i) s) ≡ holds_of (goes_on (after_byte v l)) (unhex (drop (2 * (i + 1)) s))
    unfolding text_from
    behind {v} z =
        let q : 2 * i + 2 ≡ 2 * (i + 1) = omega arith in
        rw (unhex-next s (2 * i) h z) (rw q (go (unhex (drop (2 * (i + 1)) s))))
      where
        go : (u : Option Bytes) → holds_of (goes_on (Some l)) (map_option (λ (bs : Bytes). v ∷ bs) u) ≡ holds_of (goes_on (after_byte v l)) u
        go None = refl
        go (Some bs) = refl

    pub text-fault : {v : ℕ} → pair_at s (2 * i) ≡ Some v → after_byte v l ≡ None → text_from l (drop (2 * i) s) ≡ false
    text-fault z e = behind z ∙ rw e (go (unhex (drop (2 * (i + 1)) s)))
      where
        go : (u : Option Bytes) → holds_of (goes_on None) u ≡ false
        go None = refl
        go (Some bs) = none_goes_on bs

    pub text-next : {v : ℕ} {m : Lead} → pair_at s (2 * i) ≡ Some v → after_byte v l ≡ Some m → text_from l (drop (2 * i) s) ≡ text_from m (drop (2 * (i + 1)) s)
    unfolding text_from
    text-next z e = behind z ∙ rw e

-- ---- characters

pub characters_count : (s : Bytes) → characters s ≡ count_by starts_one s
unfolding characters
characters_count s = is_count_by characters starts_one refl (λ b bs. go (in_range 128 191 b) (characters bs)) s
  where
    go : (t : Bool) (n : ℕ) → cond t 0 1 + n ≡ cond (not t) (1 + n) n
    go true n = omega arith
    go false n = refl

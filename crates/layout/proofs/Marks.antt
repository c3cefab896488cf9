-- What an offset marks, as the machine tests it.
use Prim.Native.Nat.{ℕ, ◌+◌, ◌*◌, ◌/◌, ◌^◌, ◌≤◌, ◌<◌}
use native.Mathlib.Numerals.{add-one}
use native.Mathlib.Omega.{arith}
use mathlib.Core.Path.{◌≡◌, refl, sym, ap, subst}
use mathlib.Core.Bool.{Bool, true, false, ◌||◌, cond, true≢false}
use mathlib.Core.List.{List}
use lib.ListN.{length, get_or, drop, drop_of_length-le}
use lib.Seq.{drop-cons}
use lib.IntN.{ℤ, pos, negsuc, nat_abs}
use lib.Signed.{mag, non_neg, lt_z}
use lib.Dec.{T, eqb}
use lib.Pow.{pow_mono}
use borrow.Author.Tests.{ltb-true, le-leb, lt-leb}
use mir.Syntax.{w32}
use mir.Val.{SFits, to_z, of_z, bool_byte}
use mir.ValLaws.{to_z-of_z}
use Rattle.semantics.specs.Layout.{marks, marked, map_bits}
use Rattle.laws.proofs.Maps.{bit_le, last_bit, bits-lt}

-- an i32 as the machine reads it from its bits
abbrev held32 : ℤ → ℤ
held32 z = to_z w32 (of_z w32 z)

pub below-zero : (size w : ℕ) (z : ℤ) → SFits w32 z → lt_z (held32 z) (pos 0) ≡ true → false ≡ marks size w z
below-zero size w (negsuc n) f t = refl
below-zero size w (pos n) f t = let h : n < 0 = ltb-true n 0 (rw (to_z-of_z w32 (pos n) f) at t) in absurd (omega arith)

-- an offset that is not negative is its magnitude
pub record NotNegative (z h : ℤ) : Type 0 where
  pub sign : T (non_neg h)
  pub small : nat_abs h < 2 ^ 31
  pub same : z ≡ pos (nat_abs h)

pub plain : (z : ℤ) → SFits w32 z → lt_z (held32 z) (pos 0) ≡ false → NotNegative z (held32 z)
plain (pos n) f t = subst (NotNegative (pos n)) (sym (to_z-of_z w32 (pos n) f)) (record { sign = tt; small = f.sfits; same = refl })
plain (negsuc n) f t = absurd (true≢false (rw (to_z-of_z w32 (negsuc n) f) at t))

pub past : {z : ℤ} (size w n : ℕ) → z ≡ pos n → size < n + 4 → false ≡ marks size w z
past size w n e h = rw (e, lt-leb (n + 4) size h)

pub within : {z : ℤ} (size w n : ℕ) → z ≡ pos n → n + 4 ≤ size → eqb (n / 4) w ≡ marks size w z
within size w n e h = rw (e, le-leb (n + 4) size h)

-- a turn of the search, at a test of the offset as the machine reads it
pub turn : (size w i : ℕ) (zs : List ℤ) (b : Bool) → i < length zs → mag (get_or zs i (pos 0)) < 2 ^ 31 → b ≡ marks size w (held32 (get_or zs i (pos 0)))
    → marked size (drop i zs) w ≡ b || marked size (drop (i + 1) zs) w
turn size w i zs b h f e = rw (add-one, drop-cons zs i (pos 0), e, to_z-of_z w32 (get_or zs i (pos 0)) (record { sfits = f }))

pub at-end : (size w i : ℕ) (zs : List ℤ) → length zs ≤ i → marked size (drop i zs) w ≡ false
at-end size w i zs h = rw (drop_of_length-le zs h)

-- ---- the bits of a byte

byte_of : (b : Bool) → bool_byte b ≡ cond b 1 0
byte_of true = refl
byte_of false = refl

-- a turn: the bits of k words make room for the next, which becomes the lowest
pub next_bit : (size w k byte : ℕ) (zs : List ℤ) (b : Bool) → byte ≡ map_bits size zs k w → b ≡ marked size zs (w + k)
    → byte * 2 + bool_byte b ≡ map_bits size zs (k + 1) w
next_bit size w k byte zs b e f = rw add-one (omega (arith, last_bit size zs k w (w + k) refl, byte_of (marked size zs (w + k)), ap bool_byte f))

pub room : (size w k byte : ℕ) (zs : List ℤ) (b : Bool) → k < 8 → byte ≡ map_bits size zs k w → (byte < 128) × (bool_byte b ≤ 1)
room size w k byte zs b l e =
    let h : k ≤ 7 = omega arith in
    let p : 2 ^ k ≤ 2 ^ 7 = pow_mono h in
    (omega (arith, bits-lt size zs k w), omega (arith, byte_of b, bit_le b))

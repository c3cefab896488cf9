-- Laws of the fields of a row.
use Prim.Native.Nat.{ℕ, ◌+◌, ◌-◌, ◌^◌, ◌≤◌, ◌<◌, min}
use mathlib.Core.Path.{◌≡◌, refl, sym, ◌∙◌}
use mathlib.Core.Bool.{Bool, true, false, cond}
use mathlib.Core.List.{[]}
use Rattle.std.specs.Prelude.{Option, None, Some}
use Rattle.std.specs.Option.{option_and_then, unwrap_or}
use native.Mathlib.Omega.{arith}
use lib.IntN.{ℤ, pos, negsuc}
use mir.Syntax.{w64}
use mir.Val.{SFits}
use lib.Dec.{eqb}
use lib.ListN.{length, take, drop, get_or, get_or-eq_default}
use borrow.Author.Tests.{leb-true, ltb-true, ltb-false}
use Rattle.semantics.specs.Text.{Bytes, or_else, nat_of, int_of, unhex, fields_of, from_big_endian}
use Rattle.semantics.specs.Form.{between}
use Rattle.semantics.specs.Fold.{bits64}
use Rattle.semantics.proofs.Common.{never}
use Rattle.text.specs.Parts.{until, part_start_at}
use Rattle.decimal.specs.Number.{most, up_to, whole, integer_of}
use Rattle.hex_field.specs.Hex.{eight_bytes, bits64_of}
use Rattle.text.proofs.Parts.{part-view, part-absent}
use Rattle.stored.specs.Reading.{number_read, integer_bits, real_bits, bits_in}

-- ---- fields

pub a-field : (row : Bytes) (i a e : ℕ) → a ≡ part_start_at 44 i row → a ≤ length row → e ≡ a + length (until 44 (drop a row)) → take (e - a) (drop a row) ≡ get_or (fields_of row) i []
a-field row i a e ha h he = part-view 44 i a e row ha h he

pub no_field : (row : Bytes) (i a : ℕ) → a ≡ part_start_at 44 i row → length row < a → [] ≡ get_or (fields_of row) i []
no_field row i a ha h = sym (get_or-eq_default (fields_of row) [] (ltb-false i (length (fields_of row)) (part-absent 44 i row (omega arith))))

-- ---- numbers

pub number_told : (f : Bytes) → (unwrap_or (up_to most (nat_of f)) 0 ≡ min (number_read f) most) × (unwrap_or (up_to most (nat_of f)) 0 ≤ most)
unfolding number_read
number_told f = go (nat_of f)
  where
    go : (o : Option ℕ) → (unwrap_or (up_to most o) 0 ≡ min (or_else 0 o) most) × (unwrap_or (up_to most o) 0 ≤ most)
    go None = (refl, omega arith)
    go (Some n) = (refl, omega arith)

-- ---- values

fits-64 : (y : ℤ) → between (2 ^ 63) (2 ^ 63 - 1) y ≡ true → SFits w64 y
fits-64 (pos n) h = let l = leb-true n (2 ^ 63 - 1) h in record { sfits = omega arith }
fits-64 (negsuc n) h = let l = ltb-true n (2 ^ 63) h in record { sfits = l }

-- the integer, if it has 64 bits
pub integer-is : (f : Bytes) {z : ℤ} → Some z ≡ integer_of f → SFits w64 z × (bits64 z ≡ bits_in false f)
unfolding integer_of bits_in
integer-is f {z} e = go (int_of f) e
  where
    go : (o : Option ℤ) → Some z ≡ option_and_then whole o → SFits w64 z × (bits64 z ≡ integer_bits o)
    go None e = never cc
    go (Some y) e = by (between (2 ^ 63) (2 ^ 63 - 1) y) refl e
      where
        by : (b : Bool) → between (2 ^ 63) (2 ^ 63 - 1) y ≡ b → Some z ≡ cond b (Some y) None → SFits w64 z × (bits64 z ≡ cond b (bits64 y) 0)
        by true h e = let q : z ≡ y = cc in rw q (fits-64 y h, refl)
        by false h e = never cc

pub integer-none : (f : Bytes) → None ≡ integer_of f → 0 ≡ bits_in false f
unfolding integer_of bits_in
integer-none f e = go (int_of f) e
  where
    go : (o : Option ℤ) → None ≡ option_and_then whole o → 0 ≡ integer_bits o
    go None e = refl
    go (Some y) e = by (between (2 ^ 63) (2 ^ 63 - 1) y) e
      where
        by : (b : Bool) → None ≡ cond b (Some y) None → 0 ≡ cond b (bits64 y) 0
        by true e = never cc
        by false e = refl

pub real_told : (f : Bytes) → unwrap_or (bits64_of f) 0 ≡ bits_in true f
unfolding bits64_of bits_in
real_told f = go (unhex f)
  where
    by : (t : Bool) (n : ℕ) → unwrap_or (cond t (Some n) None) 0 ≡ cond t n 0
    by true n = refl
    by false n = refl

    go : (o : Option Bytes) → unwrap_or (option_and_then eight_bytes o) 0 ≡ real_bits o
    go None = refl
    go (Some bs) = by (eqb (length bs) 8) (from_big_endian 0 bs)

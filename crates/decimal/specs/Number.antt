-- What the readers of numbers return.
use Rattle.std.specs.Prelude.{ℕ, suc, ◌+◌, ◌-◌, ◌^◌, min, Bool, cond, ℤ, pos, negsuc, Option, None, Some}
use Rattle.std.specs.Option.{option_map, option_and_then}
use Rattle.semantics.specs.Text.{Bytes, nat_of, int_of, holds_of}
use Rattle.semantics.specs.Form.{between}
use Rattle.decimal.specs.declared.Signed.{Signed}
use Rattle.decimal.specs.declared.Signed.TheVariants.{Plus, Minus}

-- the largest magnitude that is told from those below it: one more than that of the lowest i64
abbrev pub most : ℕ
most = 9223372036854775809

-- a number, or cap where it passes cap
abbrev pub up_to : ℕ → Option ℕ → Option ℕ
up_to cap = option_map (λ n. min n cap)

-- the same, and cap + 1 where there is none
abbrev pub capped : ℕ → Option ℕ → ℕ
capped cap None = cap + 1
capped cap (Some n) = min n cap

unfoldable pub number_up_to : ℕ → Bytes → ℕ
number_up_to cap s = capped cap (nat_of s)

-- an integer's sign and its magnitude, no further than `most`: `-` stands only before a number other than 0
abbrev pub signed : ℤ → Signed
signed (pos n) = Plus (min n most)
signed (negsuc n) = Minus (min (suc n) most)

unfoldable pub signed_of : Bytes → Option Signed
signed_of s = option_map signed (int_of s)

-- an integer of 64 bits
abbrev pub whole : ℤ → Option ℤ
whole z = cond (between (2 ^ 63) (2 ^ 63 - 1) z) (Some z) None

unfoldable pub integer_of : Bytes → Option ℤ
integer_of s = option_and_then whole (int_of s)

-- an integer from −lo to hi
unfoldable pub is_between : ℕ → ℕ → Bytes → Bool
is_between lo hi s = holds_of (between lo hi) (int_of s)

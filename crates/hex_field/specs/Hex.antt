-- What the readers of hexadecimal digits return.
use Rattle.std.specs.Prelude.{ℕ, ◌+◌, ◌*◌, cond, length, get_or, eqb, Option, None, Some}
use Rattle.std.specs.Option.{option_and_then, option_map}
use Rattle.semantics.specs.Text.{Bytes, hex_value, unhex, from_big_endian}

-- the byte that two digits write
abbrev pub pair_byte : Option ℕ → Option ℕ → Option ℕ
pair_byte None l = None
pair_byte (Some h) None = None
pair_byte (Some h) (Some l) = Some (h * 16 + l)

-- the byte that the two digits from i on write
abbrev pub pair_at : Bytes → ℕ → Option ℕ
pair_at s i = pair_byte (hex_value (get_or s i 0)) (hex_value (get_or s (i + 1) 0))

-- byte i of those that pairs of digits write: of a good field, it is the byte at i (the law `byte_of`)
unfoldable pub byte_at : Bytes → ℕ → Option ℕ
byte_at s i = pair_at s (2 * i)

-- 64 bits from eight bytes
abbrev pub eight_bytes : Bytes → Option ℕ
eight_bytes bs = cond (eqb (length bs) 8) (Some (from_big_endian 0 bs)) None

-- the 64 bits that 16 digits write
unfoldable pub bits64_of : Bytes → Option ℕ
bits64_of s = option_and_then eight_bytes (unhex s)

-- the same from eight bytes or fewer, behind the bytes of n
abbrev pub bits64_from : ℕ → Option Bytes → Option ℕ
bits64_from n = option_map (from_big_endian n)

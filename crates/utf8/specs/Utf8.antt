-- The states of reading UTF-8.
use Rattle.std.specs.Prelude.{ℕ, Bool, not, Some}
use Rattle.semantics.specs.Text.{Bytes, Lead, goes_on, holds_of, in_range, unhex, is_utf8}
use Rattle.utf8.specs.declared.Lead as Code

-- the state that the code has
abbrev pub lead_of : Code.Lead → Lead
lead_of a = (a.more, a.low, a.high)

-- whether a byte is the first of a character
abbrev pub starts_one : ℕ → Bool
starts_one b = not (in_range 0x80 0xBF b)

-- the hexadecimal digits of UTF-8
unfoldable pub is_text : Bytes → Bool
is_text s = holds_of is_utf8 (unhex s)

-- the same from a state on
unfoldable pub text_from : Lead → Bytes → Bool
text_from l s = holds_of (goes_on (Some l)) (unhex s)

-- The bytes of a name.
use Rattle.std.specs.Prelude.{ℕ, Bool, ◌||◌}
use Rattle.semantics.specs.Text.{is_letter, is_digit}

-- a letter, or `_`
abbrev pub name_letter : ℕ → Bool
name_letter b = is_letter b

-- a letter or a digit
abbrev pub name_byte : ℕ → Bool
name_byte b = is_letter b || is_digit b

-- How a constant is entered into the table of constants.
use Rattle.std.specs.Prelude.{ℕ, ◌/◌, ◌%◌, ◌≤◌, ◌<◌, [], ◌∷◌, ◌++◌}
use Rattle.semantics.specs.Text.{Bytes, big_endian}
use Rattle.values.specs.declared.ConstVal.{ConstVal}
use Rattle.values.specs.declared.ConstVal.TheVariants.{Int, Real, Str}
use Rattle.values.specs.Values.{string_in}

-- the bytes of an entry: the `con` line, its module's line, the kind, the bits and the digest
unfoldable pub entry_of : ℕ → ℕ → ℕ → ℕ → ℕ → Bytes
entry_of line within kind bits d = line % 256 ∷ (line / 256 ∷ (within % 256 ∷ (within / 256 ∷ (kind ∷ (big_endian 8 bits ++ (d ∷ []))))))

-- a value with its string at p
abbrev pub moved_to : ℕ → ConstVal → ConstVal
moved_to p (Int z) = Int z
moved_to p (Real x) = Real x
moved_to p (Str q l) = Str p l

abbrev pub string_of : Bytes → ConstVal → Bytes
string_of t (Int z) = []
string_of t (Real x) = []
string_of t (Str p l) = string_in t p l

-- one more entry is asked for, and the lines are lines of a sheet
pub record EntryRoom (m line within : ℕ) : Type 0 where
  pub few : m < 128
  pub first : 0 < line
  pub last : line ≤ 1024
  pub owner : within ≤ 1024

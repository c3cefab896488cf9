-- A slot of 9 bytes holds a folded value: a kind, and bits. Kind 2 is a real, 3 a string's place + 65536 times its length, all else an integer.
use Rattle.std.specs.Prelude.{ℕ, ◌+◌, ◌/◌, ◌%◌, ◌∷◌, get_or, unwrap_or}
use Rattle.std.specs.Float.{binary64}
use Rattle.std.specs.Float.Ieee.{of_bits}
use Rattle.semantics.specs.Text.{Bytes, big_endian}
use Rattle.semantics.specs.Fold.{signed64}
use Rattle.words.specs.Words.{bits_at}
use Rattle.values.specs.declared.ConstVal.{ConstVal}
use Rattle.values.specs.declared.ConstVal.TheVariants.{Int, Real, Str}
use Rattle.codes.specs.declared.value.Value.{Value}
use Rattle.codes.specs.declared.value.Value.TheVariants as V
use Rattle.codes.specs.Kinds.{value_by}
use Rattle.values.specs.Values.{kind_for, bits_for}

unfoldable pub slot_by : Value → ℕ → ConstVal
unfolding of_bits
slot_by V.Int b = Int (signed64 b)
slot_by V.Real b = Real (of_bits binary64 b)
slot_by V.Str b = Str (b % 65536) (b / 65536)

-- the slot at a
unfoldable pub slot_of : Bytes → ℕ → ConstVal
slot_of t a = slot_by (unwrap_or (value_by (get_or t a 0)) V.Int) (bits_at t (a + 1))

-- the bytes of a slot that holds v
abbrev pub slot_bytes : ConstVal → Bytes
slot_bytes v = kind_for v ∷ big_endian 8 (bits_for v)

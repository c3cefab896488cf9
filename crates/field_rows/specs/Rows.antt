-- The `fld` rows of fields, by the lines that declare them.
use Rattle.std.specs.Prelude.{ℕ, ◌+◌, ◌≡◌, List, [], ◌∷◌, ◌++◌}
use Rattle.semantics.specs.Text.{Bytes, bytes, decimal}
use Rattle.semantics.specs.Tree.{Fd}
use Rattle.semantics.specs.Sheet.{concat_map}
use Rattle.semantics.specs.Layout.{PlacedField, place_line, place}
use Rattle.semantics.specs.Listing.{row, field_row}
use Rattle.write.specs.declared.Writer.{Writer}
use Rattle.write.specs.Writes.{Writes}

-- fld,NAME,OFFSET,SIZE
unfoldable pub field_text : Bytes → ℕ → ℕ → Bytes
field_text name offset size = row (bytes "fld" ∷ name ∷ decimal offset ∷ decimal size ∷ [])

-- one for each name, of a type of this size, one behind the other
unfoldable pub name_rows : ℕ → ℕ → List Bytes → Bytes
name_rows size offset [] = []
name_rows size offset (n ∷ ns) = field_text n offset size ++ name_rows size (offset + size) ns

unfoldable pub placed_rows : List PlacedField → Bytes
placed_rows ps = concat_map field_row ps

-- of an `fd` line whose fields begin behind `off`, and of several
unfoldable pub line_rows : Fd → ℕ → Bytes
line_rows f off = placed_rows (place_line f.ty f.names off).placed

unfoldable pub field_rows : ℕ → List Fd → Bytes
field_rows off fs = placed_rows (place off fs).placed

-- those of one line were written, and their fields lie from a to b
pub record LineWrote (f : Fd) (a b : ℕ) (v w : Writer) : Type 0 where
  pub wrote : Writes v (line_rows f a) w
  pub end : b ≡ (place_line f.ty f.names a).end

-- and of several
pub record AllWrote (fs : List Fd) (a b : ℕ) (v w : Writer) : Type 0 where
  pub wrote : Writes v (field_rows a fs) w
  pub end : b ≡ (place a fs).end

-- Rows of types, and the maps that they print.
use Rattle.std.specs.Prelude.{ℕ, zero, suc, ◌+◌, ◌*◌, ◌≡◌, List, [], ◌∷◌, ◌++◌, ℤ, pos, length}
use Rattle.semantics.specs.Text.{Bytes}
use Rattle.semantics.specs.Tree.{Shape}
use Rattle.semantics.specs.Listing.{type_rows}
use Rattle.checks.specs.Checks.{Kept}
use Rattle.write.specs.declared.Writer.{Writer}
use Rattle.write.specs.Writes.{Writes}

-- the offsets of the first k words
unfoldable pub word_offsets : ℕ → List ℤ
word_offsets zero = []
word_offsets (suc k) = word_offsets k ++ (pos (4 * k) ∷ [])

-- rows of these shapes, with IDs from a up to b, whose maps were made in the working space, were written
pub record TypesWrote (xs : List Shape) (a b : ℕ) (v w : Writer) (t u : Bytes) : Type 0 where
  pub wrote : Writes v (type_rows a xs) w
  pub id : b ≡ a + length xs
  pub kept : Kept 49152 t u

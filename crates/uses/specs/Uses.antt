-- What the rows of uses are made from.
use Rattle.std.specs.Prelude.{ℕ, ◌≡◌, length}
use Rattle.semantics.specs.Text.{Bytes}
use Rattle.semantics.specs.Sheet.{sheet_source}
use Rattle.type_keys.specs.Table.{Needs}

-- what the IDs of needs follow from: their table, and how many frames there are
pub record NeedIds (s t : Bytes) (needs frames : ℕ) : Type 0 where
  pub table : Needs s t (sheet_source s).needs
  pub count : needs ≡ length (sheet_source s).needs
  pub framed : frames ≡ length (sheet_source s).frames

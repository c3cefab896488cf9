-- The shapes of keys, and the tables that rows of types are made from.
use Rattle.std.specs.Prelude.{ℕ, List, [], map, take}
use Rattle.semantics.specs.Text.{Bytes}
use Rattle.semantics.specs.Tree.{Shape, TypeKey}
use Rattle.semantics.specs.Sheet.{sheet_source}
use Rattle.semantics.specs.Types.{distinct, key_shape}
use Rattle.records.specs.Log.{log_of, RecordsLogged}
use Rattle.type_keys.specs.Table.{Needs}

-- the keys of the first q needs, each once
abbrev pub keys_to : Bytes → ℕ → List TypeKey
keys_to s q = distinct [] (take q (sheet_source s).needs)

-- what is printed for keys
abbrev pub shapes_of : Bytes → List TypeKey → List Shape
shapes_of s ks = map (key_shape (log_of s)) ks

-- the tables of a checked sheet that rows are made from: the records, and the needs
pub record TypeTables (s t : Bytes) (entries : ℕ) : Type 0 where
  pub log : RecordsLogged s t entries
  pub table : Needs s t (sheet_source s).needs

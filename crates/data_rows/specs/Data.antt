-- The data items of a sheet, their rows, and the keys of array elements.
use Rattle.std.specs.Prelude.{ℕ, ◌≤◌, ◌<◌, ◌≡◌, List, ◌++◌, length, get_or}
use Rattle.semantics.specs.Text.{Bytes}
use Rattle.semantics.specs.Tree.{Ty, TypeKey}
use Rattle.semantics.specs.Sheet.{concat_map, sheet_source}
use Rattle.semantics.specs.Fold.{Names}
use Rattle.semantics.specs.Global.{Item, Init, Global, init_items, laid_names, globals}
use Rattle.semantics.specs.Types.{array_key, id_of}
use Rattle.semantics.specs.Listing.{item_row}
use Rattle.write.specs.declared.Writer.{Writer}
use Rattle.write.specs.Writes.{Writes}
use Rattle.checks.specs.Checks.{Kept}
use Rattle.names.specs.Table.{ConstsLogged, ConstTable, names_in}
use Rattle.global_table.specs.Table.{places_in, offset_in, Tabled}
use Rattle.items.specs.Items.{item_rows}
use Rattle.type_keys.specs.Table.{Kinds}
use Rattle.vars.specs.declared.First.{First}
use Rattle.vars.specs.First.{FirstStands}
use Rattle.data_rows.specs.declared.Counts.{Counts}

-- ---- a sheet s whose first m constants stand in the working space t

abbrev pub items_in : Bytes → Bytes → ℕ → List Item
items_in s t m = (globals (names_in s t m) (sheet_source s)).items

-- the keys of needs, then those of the arrays among items
abbrev pub keys_of : Bytes → List Item → List TypeKey
keys_of s is = (sheet_source s).needs ++ concat_map array_key is

-- the rows of all items
abbrev pub rows_of : Bytes → List Item → Bytes
rows_of s is = concat_map (item_row (id_of (sheet_source s) is)) is

-- the tables of a checked sheet: constants, globals, and the keys of needs
pub record DataTables (s t : Bytes) (c : Counts) (keys : ℕ) : Type 0 where
  pub table : ConstTable s t c.consts
  pub places : Tabled s t c.globals
  pub laid : (ns : Names) → places_in s t c.globals ≡ (globals ns (sheet_source s)).places
  pub kinds : Kinds t (sheet_source s).needs keys
  pub framed : c.frames ≡ length (sheet_source s).frames
  pub few : c.frames ≤ 128

-- ---- items one after the other

-- the items xs were printed, and their keys have IDs, whatever items stand before them and behind: m keys had one, and n have one then
pub record ItemsPrinted (s : Bytes) (xs : List Item) (m n : ℕ) (t u : Bytes) (v w : Writer) : Type 0 where
  pub rows : (before behind : List Item) → Kinds t (keys_of s before) m → Writes v (item_rows (id_of (sheet_source s) (before ++ (xs ++ behind))) xs) w
  pub kinds : (before : List Item) → Kinds t (keys_of s before) m → Kinds u (keys_of s (before ++ xs)) n

-- what stands below the positions of kinds of elements, and the constants' strings, are kept
pub record PrintKept (t u : Bytes) : Type 0 where
  pub below : Kept 10624 t u
  pub strings : (j : ℕ) → 16384 ≤ j → j < 49152 → get_or u j 0 ≡ get_or t j 0

-- so many keys have IDs
pub record Keyed (t : Bytes) (frames keys : ℕ) : Type 0 where
  pub few : frames ≤ 128
  pub long : 62464 ≤ length t
  pub known : List TypeKey
  pub kinds : Kinds t known keys

-- the tables that lines are printed from, where the keys of the items printed so far have IDs
pub record PrintTables (s t : Bytes) (c : Counts) (keys : ℕ) : Type 0 where
  pub log : ConstsLogged s t c.consts
  pub places : Tabled s t c.globals
  pub framed : c.frames ≡ length (sheet_source s).frames
  pub few : c.frames ≤ 128
  pub printed : List Item
  pub kinds : Kinds t (keys_of s printed) keys

-- the tables, and in the working space the first value x
pub record NameTask (s t : Bytes) (c : Counts) (x : First) (keys : ℕ) : Type 0 where
  pub held : PrintTables s t c keys
  pub stands : FirstStands t x

-- ---- the items of names at their places

abbrev pub name_items : Ty → List Global → Init → List Bytes → List Item
name_items ty ps x ns = concat_map (λ (n : Bytes). init_items (offset_in n ps) ty x) (laid_names ns)

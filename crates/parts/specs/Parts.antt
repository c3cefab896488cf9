-- The two parts of a listing, and the tables that they are written from.
use Rattle.std.specs.Prelude.{ℕ, ◌≡◌, ◌++◌, None}
use Rattle.semantics.specs.Text.{Bytes}
use Rattle.semantics.specs.Sheet.{sheet_source, concat_map}
use Rattle.semantics.specs.Layout.{recorded_adts, records}
use Rattle.semantics.specs.Const.{constants}
use Rattle.semantics.specs.Types.{id_of, descriptors}
use Rattle.semantics.specs.Listing.{record_rows, const_rows, global_row, item_row, type_rows, use_row}
use Rattle.semantics.specs.Refusal.{source_globals}
use Rattle.names.specs.Table.{log_in}
use Rattle.tables.specs.declared.Tables.{Tables}
use Rattle.tables.specs.Tables.{TablesHeld}

-- the first part: records, constants and globals
unfoldable pub declared_text : Bytes → Bytes
declared_text s =
    concat_map record_rows (records (recorded_adts (sheet_source s)))
    ++ const_rows (constants (sheet_source s)).log
    ++ concat_map global_row (source_globals (sheet_source s)).places

-- the second part: items, types and uses
unfoldable pub types_text : Bytes → Bytes
types_text s =
    let g = source_globals (sheet_source s) in
    concat_map (item_row (id_of (sheet_source s) g.items)) g.items
    ++ type_rows 0 (descriptors (sheet_source s) g.items)
    ++ concat_map (use_row (id_of (sheet_source s) g.items)) (sheet_source s).needs

-- the tables stand, and no constant is refused
pub record Listable (s t : Bytes) (x : Tables) : Type 0 where
  pub held : TablesHeld s t x
  pub folded : (constants (sheet_source s)).refused ≡ None
  pub log : (constants (sheet_source s)).log ≡ log_in s t x.consts

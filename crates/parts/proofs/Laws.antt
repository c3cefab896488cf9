-- Records, constants and globals together, and the names that first values see.
use mathlib.Core.Path.{◌≡◌, sym, ap}
use mathlib.Core.List.{List}
use Prim.Native.Nat.{ℕ}
use Rattle.semantics.specs.Text.{Bytes}
use Rattle.semantics.specs.Sheet.{sheet_source, concat_map}
use Rattle.semantics.specs.Fold.{Const}
use Rattle.semantics.specs.Const.{names_of}
use Rattle.semantics.specs.Listing.{const_rows, global_row}
use Rattle.write.specs.declared.Writer.{Writer}
use Rattle.write.specs.Writes.{Writes}
use Rattle.write.proofs.Writes.{writes_as, writes_then}
use Rattle.names.specs.Table.{log_in, ConstTable, names_in}
use Rattle.global_table.specs.Table.{places_in}
use Rattle.record_rows.specs.Rows.{all_rows}
use Rattle.tables.specs.declared.Tables.{Tables}
use Rattle.parts.specs.Parts.{declared_text, Listable}

module _ {s t : Bytes} {x : Tables} (k : Listable s t x) where
  pub constants-table : ConstTable s t x.consts
  constants-table = record { checked = k.held.checked; logged = k.held.consts }

  pub declared-rows : {v0 v1 v2 v3 : Writer} → Writes v0 (all_rows s) v1 → Writes v1 (const_rows (log_in s t x.consts)) v2 → Writes v2 (concat_map global_row (places_in s t x.globals)) v3 → Writes v0 (declared_text s) v3
  unfolding declared_text all_rows
  declared-rows a b c =
      writes_then (writes_then a (writes_as (ap const_rows (sym k.log)) b)) (writes_as (ap (concat_map global_row) (k.held.globals.places (names_of (sheet_source s)))) c)

  -- the names that first values see
  pub names-are : names_in s t x.consts ≡ names_of (sheet_source s)
  names-are = ap (λ (l : List Const). record { log = l }) (sym k.log)

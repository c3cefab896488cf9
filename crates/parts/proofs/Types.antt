-- Items, types and uses together.
use mathlib.Core.Path.{◌≡◌, ap}
use mathlib.Core.List.{List, ◌++◌}
use Prim.Native.Nat.{ℕ, ◌≤◌}
use native.Mathlib.Omega.{arith}
use lib.ListN.{length}
use Rattle.semantics.specs.Text.{Bytes}
use Rattle.semantics.specs.Sheet.{sheet_source, concat_map}
use Rattle.semantics.specs.Fold.{Names}
use Rattle.semantics.specs.Global.{Item, globals}
use Rattle.semantics.specs.Types.{id_of, descriptors}
use Rattle.semantics.specs.Listing.{type_rows, use_row}
use Rattle.write.specs.declared.Writer.{Writer}
use Rattle.write.specs.Writes.{Writes}
use Rattle.write.proofs.Writes.{writes_as, writes_then}
use Rattle.checks.specs.Checks.{Kept}
use Rattle.checks.proofs.Kept.{kept_less}
use Rattle.records.proofs.Kept.{logged-kept}
use Rattle.type_rows.specs.Rows as Types
use Rattle.uses.specs.Uses.{NeedIds}
use Rattle.data_rows.specs.Data.{items_in, rows_of}
use Rattle.tables.specs.declared.Tables.{Tables}
use Rattle.parts.specs.Parts.{Listable, types_text}
use Rattle.parts.proofs.Kept.{needs_stay}
use Rattle.parts.proofs.Laws.{names-are}

module _ {s t : Bytes} {frames : ℕ} {x : Tables} (k : Listable s t x) (fr : (frames ≡ length (sheet_source s).frames) × (frames ≤ 128)) where
  module _ {u : Bytes} (h : Kept 10624 t u) where
    pub types-ready : Types.TypeTables s u x.records
    types-ready = record { log = logged-kept (kept_less (omega arith) h) k.held.records; table = needs_stay h k.held.needs }

    module _ {v : Bytes} (m : Kept 49152 u v) where
      pub uses-ready : NeedIds s v x.needs frames
      uses-ready = record { table = needs_stay (kept_less (omega arith) m) (needs_stay h k.held.needs); count = k.held.count; framed = fr.0 }

abbrev text_of : Bytes → List Item → Bytes
text_of s is = (rows_of s is ++ type_rows 0 (descriptors (sheet_source s) is)) ++ concat_map (use_row (id_of (sheet_source s) is)) (sheet_source s).needs

pub types-rows : {s t : Bytes} {x : Tables} → Listable s t x → {v0 v1 v2 v3 : Writer}
    → Writes v0 (rows_of s (items_in s t x.consts)) v1 → Writes v1 (type_rows 0 (descriptors (sheet_source s) (items_in s t x.consts))) v2
    → ((is : List Item) → Writes v2 (concat_map (use_row (id_of (sheet_source s) is)) (sheet_source s).needs) v3)
    → Writes v0 (types_text s) v3
unfolding types_text
types-rows {s} {t} {x} k a b c =
    writes_as (ap (λ (ns : Names). text_of s (globals ns (sheet_source s)).items) (names-are k)) (writes_then (writes_then a b) (c (items_in s t x.consts)))

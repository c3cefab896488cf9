-- The rows of a record in parts, and the rows that an entry of the log stands for.
use Rattle.std.specs.Prelude.{ℕ, suc, cond, [], ◌∷◌, ◌++◌, get_or, take, drop}
use Rattle.semantics.specs.Text.{Bytes, bytes, decimal, decimalℤ, hex_of}
use Rattle.semantics.specs.Tree.{Shape}
use Rattle.semantics.specs.Sheet.{concat_map, sheet_source}
use Rattle.semantics.specs.Layout.{Recorded, recorded_adts, records, last_of, seen, map_of}
use Rattle.semantics.specs.Listing.{record_rows}
use Rattle.write.specs.declared.Writer.{Writer}
use Rattle.write.specs.Writes.{Writes}
use Rattle.checks.specs.Checks.{Kept}
use Rattle.records.specs.Log.{recorded_at, log_of, no_record}

-- TAG and GROUP, each behind its comma
unfoldable pub tag_text : Recorded → Bytes
tag_text r = (44 ∷ decimalℤ r.tag) ++ (44 ∷ decimalℤ r.group)

-- those of entry i were written: the sheet has no part in them
abbrev pub TagWrote : Bytes → ℕ → Writer → Writer → Type 0
TagWrote t i v w = (s : Bytes) → Writes v (tag_text (recorded_at s t i)) w

-- rec,KEY,TAG,GROUP
unfoldable pub rec_text : Recorded → Bytes
rec_text r = (bytes "rec" ++ (44 ∷ r.key)) ++ tag_text r

-- SIZE and MAP, and the end of the row
unfoldable pub shape_text : Shape → Bytes
shape_text h = ((44 ∷ decimal h.size) ++ (44 ∷ hex_of (map_of h))) ++ (10 ∷ [])

-- the rows that stand where record i of the log is the first of its key: those of the key's last record
unfoldable pub key_rows : Bytes → ℕ → Bytes
key_rows s i =
    let r = get_or (log_of s) i no_record in
    cond (seen r.key (take i (log_of s))) [] (record_rows (last_of r.key r (drop (suc i) (log_of s))))

unfoldable pub all_rows : Bytes → Bytes
all_rows s = concat_map record_rows (records (recorded_adts (sheet_source s)))

-- text was written, while the working space t became u, which is changed above 49152 alone
pub record Printed (x : Bytes) (v w : Writer) (t u : Bytes) : Type 0 where
  pub wrote : Writes v x w
  pub kept : Kept 49152 t u

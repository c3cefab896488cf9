-- The log of records in the working space: for each its line; of a variant its case, its tag's position and number; the digest of
-- its key; its link, and the head of chain i.
use Rattle.std.specs.Prelude.{ℕ, zero, suc, ◌+◌, ◌*◌, ◌-◌, ◌≤◌, ◌<◌, ◌≡◌, true, false, Option, None, Some, List, [], ◌∷◌, ◌++◌, pos, length, get_or}
use Rattle.semantics.specs.Text.{Bytes, same}
use Rattle.semantics.specs.Tree.{AdtDecl, Case, no_case}
use Rattle.semantics.specs.Sheet.{sheet_source}
use Rattle.semantics.specs.Layout.{Recorded, records_of, recorded_adts, record_log, last_of, variant_shape, variant_fields}
use Rattle.semantics.specs.Types.{unknown}
use Rattle.words.specs.Words.{digest}
use Rattle.chains.specs.declared.ChainPlaces.{ChainPlaces}
use Rattle.chains.specs.Chains.{count_to, digest_at, Chained}
use Rattle.checks.specs.Checks.{Checked}
use Rattle.sizes.specs.Places.{decl_at, is_record}
use Rattle.shapes.specs.Shapes.{cases_in}
use Rattle.lines.specs.Lines.{lines_in}

-- ---- the records of a declaration

abbrev pub first_record : List Recorded → Recorded
first_record [] = unknown []
first_record (r ∷ rs) = r

-- T's own record stands first
unfoldable pub own_record : AdtDecl → Recorded
own_record d = first_record (records_of d)

abbrev pub case_in : AdtDecl → ℕ → Case
case_in d c = get_or (cases_in d) c no_case

-- the variant of the tag at position p of case c, with the number k
unfoldable pub variant_record : AdtDecl → ℕ → ℕ → ℕ → Recorded
variant_record d c p k = record {
  key = d.name ++ (46 ∷ get_or (case_in d c).tags p []);
  tag = pos k;
  group = pos c;
  shape = variant_shape d.fields (case_in d c);
  fields = variant_fields d.fields (case_in d c);
}

-- ---- entries

-- a line, from 1; 0 for T itself, or c + 1 for case c; the tag's position in its case, and its number
pub record Entry : Type 0 where
  pub line : ℕ
  pub case : ℕ
  pub position : ℕ
  pub number : ℕ

abbrev pub record_in : AdtDecl → ℕ → ℕ → ℕ → Recorded
record_in d zero p k = own_record d
record_in d (suc c) p k = variant_record d c p k

abbrev pub record_of : Bytes → Entry → Recorded
record_of s e = record_in (decl_at s e.line) e.case e.position e.number

-- T and the tag of an entry, whose key is T or T.tag
unfoldable pub name_of : Bytes → Entry → Bytes
name_of s e = (decl_at s e.line).name

unfoldable pub tag_of : Bytes → Entry → Bytes
tag_of s e = get_or (case_in (decl_at s e.line) (e.case - 1)).tags e.position []

-- 8 bytes an entry: byte k of entry i
abbrev pub byte_of : Bytes → ℕ → ℕ → ℕ
byte_of t i k = get_or t (9216 + (8 * i + k)) 0

-- the line low byte first
unfoldable pub entry_at : Bytes → ℕ → Entry
entry_at t i = record { line = byte_of t i 0 + 256 * byte_of t i 1; case = byte_of t i 2; position = byte_of t i 3; number = byte_of t i 4 }

-- the chains: byte 5 of an entry is the digest of its key, byte 6 its link, and byte 7 of entry k the head of chain k
abbrev pub record_chains : ChainPlaces
record_chains = record { at = 9221; gap = 1; step = 8 }

-- the record that entry i stands for
unfoldable pub recorded_at : Bytes → Bytes → ℕ → Recorded
recorded_at s t i = record_of s (entry_at t i)

-- ---- the log of a checked sheet

unfoldable pub log_of : Bytes → List Recorded
log_of s = record_log (recorded_adts (sheet_source s))

abbrev pub no_record : Recorded
no_record = unknown []

-- an entry names a line of records, and where it names a case and a tag, these are there
pub record EntryInSheet (s : Bytes) (e : Entry) : Type 0 where
  pub first : 0 < e.line
  pub last : e.line ≤ lines_in s
  pub kind : is_record s e.line ≡ true
  pub case : (c : ℕ) → e.case ≡ suc c → c < length (cases_in (decl_at s e.line))
  pub tag : (c : ℕ) → e.case ≡ suc c → e.position < length (case_in (decl_at s e.line) c).tags

-- entry i is one of a checked sheet's
pub record EntryIn (s t : Bytes) (i : ℕ) : Type 0 where
  pub checked : Checked s
  pub low : i < 128
  pub sound : EntryInSheet s (entry_at t i)

-- the log of all records, of which there are m: the first d entries hold the digests of their keys, and are chained
pub record Digested (s t : Bytes) (m d : ℕ) : Type 0 where
  pub checked : Checked s
  pub count : m ≡ length (log_of s)
  pub few : m ≤ 128
  pub each : (i : ℕ) → i < m → recorded_at s t i ≡ get_or (log_of s) i no_record
  pub entries : (i : ℕ) → i < m → EntryIn s t i
  pub digests : (i : ℕ) → i < d → digest_at t record_chains i ≡ digest (recorded_at s t i).key
  pub chained : Chained t record_chains d

-- the log of all records of the sheet, m of them, with all digests and chains
abbrev pub RecordsLogged : Bytes → Bytes → ℕ → Type 0
RecordsLogged s t m = Digested s t m m

-- entry i of such a log
pub record LogEntry (s t : Bytes) (i : ℕ) : Type 0 where
  pub m : ℕ
  pub log : RecordsLogged s t m
  pub low : i < m

-- ---- the entries of a key

-- record j of a log, d for none
abbrev pub chosen : List Recorded → Option ℕ → Recorded → Recorded
chosen rs None d = d
chosen rs (Some i) d = get_or rs i d

-- j is the last record of key k: no later one has it
pub record Newest (s : Bytes) (k : Bytes) (j : Option ℕ) : Type 0 where
  pub low : count_to j ≤ length (log_of s)
  pub last : (d : Recorded) → last_of k d (log_of s) ≡ chosen (log_of s) j d
  pub later : (i : ℕ) → count_to j ≤ i → i < length (log_of s) → same k (get_or (log_of s) i no_record).key ≡ false

-- record j, of m, is the last with the key of record i
pub record NewestOfEntry (s t : Bytes) (m i j : ℕ) : Type 0 where
  pub low : j < m
  pub last : (d : Recorded) → last_of (recorded_at s t i).key d (log_of s) ≡ recorded_at s t j
  pub later : (l : ℕ) → j < l → l < m → same (recorded_at s t i).key (recorded_at s t l).key ≡ false

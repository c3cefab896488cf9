-- The entries of a sheet's records in their order, as bytes, and what making the log leaves.
use Rattle.std.specs.Prelude.{ℕ, zero, suc, ◌+◌, ◌/◌, ◌%◌, ◌-◌, List, [], ◌∷◌, ◌++◌, length}
use Rattle.semantics.specs.Text.{Bytes}
use Rattle.semantics.specs.Tree.{AdtDecl, Case, Node}
use Rattle.semantics.specs.Sheet.{concat_map}
use Rattle.lines.specs.Lines.{nodes_in}
use Rattle.checks.specs.Checks.{Outside}
use Rattle.source.specs.Walk.{declares_at}
use Rattle.shapes.specs.Shapes.{cases_in}
use Rattle.records.specs.Log.{Entry, Digested}

-- 8 bytes an entry, the line low byte first, with room for the digest of the key, a link and a head
abbrev pub entry_bytes : ℕ → ℕ → ℕ → ℕ → Bytes
entry_bytes r c p k = (r % 256) ∷ (r / 256) ∷ c ∷ p ∷ k ∷ 0 ∷ 0 ∷ 0 ∷ []

abbrev pub bytes_of : Entry → Bytes
bytes_of e = entry_bytes e.line e.case e.position e.number

-- ---- their order

-- so many tags of case c of line r, from position p and number k on
abbrev pub tag_entries : ℕ → ℕ → ℕ → ℕ → ℕ → List Entry
tag_entries r c p k zero = []
tag_entries r c p k (suc q) = record { line = r; case = c; position = p; number = k } ∷ tag_entries r c (suc p) (suc k) q

-- tags count over all cases
abbrev pub case_entries : ℕ → ℕ → ℕ → List Case → List Entry
case_entries r c k [] = []
case_entries r c k (x ∷ xs) = tag_entries r (suc c) 0 k (length x.tags) ++ case_entries r (suc c) (k + length x.tags) xs

-- T itself, then its variants
abbrev pub decl_entries : ℕ → AdtDecl → List Entry
decl_entries r d = record { line = r; case = 0; position = 0; number = 0 } ∷ case_entries r 0 0 (cases_in d)

abbrev pub line_entries : ℕ → List AdtDecl → List Entry
line_entries r [] = []
line_entries r (d ∷ ds) = decl_entries r d

-- of line r, from 1
unfoldable pub entries_of : Bytes → ℕ → List Entry
entries_of s r = line_entries r (declares_at (nodes_in s) (r - 1)).adts

-- those of the first i lines
unfoldable pub entries_to : List Node → ℕ → List Entry
entries_to ns zero = []
entries_to ns (suc i) = entries_to ns i ++ line_entries (suc i) (declares_at ns i).adts

-- and their bytes
unfoldable pub log_bytes : List Entry → Bytes
log_bytes es = concat_map bytes_of es

-- ---- the log

-- t has become u, which holds the log of m records, d of them with the digests of their keys, and chained; what stands around it is kept
pub record CollectedTo (s t u : Bytes) (m d : ℕ) : Type 0 where
  pub log : Digested s u m d
  pub outside : Outside 9216 10240 t u

abbrev pub RecordsCollected : Bytes → Bytes → Bytes → ℕ → Type 0
RecordsCollected s t u m = CollectedTo s t u m m

-- The table of globals in the working space, and the places that it holds.
-- Entry i takes 8 bytes from 7168 + 8 i: the `var` line, from 1, in two bytes, the low one first; the position of the name among the
-- line's names, from 0; the offset, as the line; the name's digest; its link; and for i < 128 the head of chain i.
use Rattle.std.specs.Prelude.{ℕ, zero, suc, ◌+◌, ◌-◌, ◌*◌, ◌/◌, ◌%◌, ◌≤◌, ◌<◌, ◌≡◌, cond, List, [], ◌∷◌, get_or, Option, None, Some}
use Rattle.std.proofs.lemmas.List.Edits.{sets}
use Rattle.semantics.specs.Text.{Bytes, or_else, same}
use Rattle.semantics.specs.Tree.{Ty, VarDecl}
use Rattle.semantics.specs.Global.{Global, place_of}
use Rattle.lines.specs.Lines.{read_at, nodes_in}
use Rattle.words.specs.Words.{digest, u16_at}
use Rattle.chains.specs.declared.ChainPlaces.{ChainPlaces}
use Rattle.chains.specs.Chains.{digest_at, Chained, linked}
use Rattle.checks.specs.Checks.{Checked, KindLine}
use Rattle.source.specs.Walk.{var_of}

-- ---- a `var` line: the type's line, the value's, and a count with as many names

-- line r of a checked sheet is a `var` line, 72
abbrev pub VarLine : Bytes → ℕ → Type 0
VarLine s r = KindLine 72 s r

-- what line r declares: its name j, its type, its names
abbrev pub var_on : Bytes → ℕ → VarDecl
var_on s r = var_of (nodes_in s) (read_at s (r - 1)).fields

abbrev pub name_on : Bytes → ℕ → ℕ → Bytes
name_on s r j = get_or (read_at s (r - 1)).fields (3 + j) []

abbrev pub type_on : Bytes → ℕ → Ty
type_on s r = (var_on s r).ty

abbrev pub names_on : Bytes → ℕ → List Bytes
names_on s r = (var_on s r).names

-- ---- the table

abbrev pub global_line_of : Bytes → ℕ → ℕ
global_line_of t i = u16_at t (7168 + 8 * i)

unfoldable pub global_position_of : Bytes → ℕ → ℕ
global_position_of t i = get_or t (7170 + 8 * i) 0

abbrev pub offset_of : Bytes → ℕ → ℕ
offset_of t i = u16_at t (7171 + 8 * i)

-- where the digests stand, with links and heads
abbrev pub global_chains : ChainPlaces
global_chains = record { at = 7173; gap = 1; step = 8 }

-- entry i stored, and then linked
unfoldable pub global_stored : Bytes → ℕ → ℕ → ℕ → ℕ → ℕ → Bytes
global_stored t i line position offset d = sets t (7168 + 8 * i) (line % 256 ∷ line / 256 ∷ position ∷ offset % 256 ∷ offset / 256 ∷ d ∷ [])

unfoldable pub global_entered : Bytes → ℕ → ℕ → ℕ → ℕ → ℕ → Bytes
global_entered t i line position offset d = linked (global_stored t i line position offset d) global_chains i

-- the global of entry i
unfoldable pub global_at : Bytes → Bytes → ℕ → Global
global_at s t i = record { name = name_on s (global_line_of t i) (global_position_of t i); offset = offset_of t i; ty = type_on s (global_line_of t i) }

-- k entries from i on
unfoldable pub entries_from : Bytes → Bytes → ℕ → ℕ → List Global
entries_from s t i zero = []
entries_from s t i (suc k) = global_at s t i ∷ entries_from s t (suc i) k

abbrev pub places_in : Bytes → Bytes → ℕ → List Global
places_in s t g = entries_from s t 0 g

-- entry i is of a `var` line, and holds its name's digest
pub record GlobalEntry (s t : Bytes) (i : ℕ) : Type 0 where
  pub low : i < 256
  pub line : VarLine s (global_line_of t i)
  pub digest : digest_at t global_chains i ≡ digest (global_at s t i).name

-- the first place with a name, where the first of all is place k
abbrev pub number_from : ℕ → Bytes → List Global → Option ℕ
number_from k x [] = None
number_from k x (p ∷ ps) = cond (same x p.name) (Some k) (number_from (suc k) x ps)

abbrev pub entry_number : Bytes → List Global → Option ℕ
entry_number x ps = number_from 0 x ps

-- where a name lies among places, 0 where it has none
abbrev pub offset_in : Bytes → List Global → ℕ
offset_in x ps = or_else 0 (place_of x ps)

-- g entries, each with a name that none before it has
pub record Tabled (s t : Bytes) (g : ℕ) : Type 0 where
  pub checked : Checked s
  pub few : g ≤ 256
  pub entries : (i : ℕ) → i < g → GlobalEntry s t i
  pub once : (i : ℕ) → i < g → entry_number (global_at s t i).name (places_in s t i) ≡ None
  pub chained : Chained t global_chains g

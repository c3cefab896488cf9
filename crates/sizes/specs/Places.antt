-- The `fd` lines of a checked sheet, and where they are placed.
use Rattle.std.specs.Prelude.{ℕ, ◌+◌, ◌-◌, ◌≤◌, ◌<◌, ◌≡◌, Bool, true, ◌||◌, List, [], ◌∷◌, eqb, drop, get_or, Option, None}
use Rattle.semantics.specs.Text.{Bytes}
use Rattle.semantics.specs.Tree.{Ty, Fd, AdtDecl}
use Rattle.semantics.specs.Form.{letter, node_at, values, number_of, is_number, fds_of}
use Rattle.semantics.specs.Form.Kind.{k_fd}
use Rattle.semantics.specs.Form.Atom.{ref}
use Rattle.semantics.specs.Layout as Layout
use Rattle.semantics.specs.Layout.{place_line, place}
use Rattle.lines.specs.Lines.{lines_in, read_at, nodes_in}
use Rattle.checks.specs.Checks.{Checked, KindLine}
use Rattle.sizes.specs.declared.place.Reached.{Reached}
use Rattle.sizes.specs.declared.place.Refs.{Refs}

-- what line r makes, from 1
abbrev pub fd_at : Bytes → ℕ → Fd
fd_at s r = (node_at (nodes_in s) r).fd

-- line r of a checked sheet is an `fd` line, 70
abbrev pub FieldLine : Bytes → ℕ → Type 0
FieldLine s r = KindLine 70 s r

-- what `count` fields of line r from field `from` on refer to
abbrev pub fds_from : Bytes → ℕ → ℕ → ℕ → List Fd
fds_from s r from count = fds_of (values (ref k_fd) (nodes_in s) count (drop from (read_at s (r - 1)).fields))

abbrev pub fds_of_refs : Bytes → Refs → List Fd
fds_of_refs s f = fds_from s f.line f.from f.count

-- they refer to `fd` lines
pub record FieldRefs (s : Bytes) (f : Refs) : Type 0 where
  pub checked : Checked s
  pub first : 0 < f.line
  pub last : f.line ≤ lines_in s
  pub near : f.from ≤ 255
  pub few : f.count ≤ 16
  pub number : (j : ℕ) → j < f.count → is_number (get_or (read_at s (f.line - 1)).fields (f.from + j) []) ≡ true
  pub each : (j : ℕ) → j < f.count → FieldLine s (number_of (get_or (read_at s (f.line - 1)).fields (f.from + j) []))

-- what line r declares
abbrev pub first_decl : List AdtDecl → AdtDecl
first_decl [] = record { name = []; fields = []; pick = None }
first_decl (d ∷ ds) = d

unfoldable pub decl_at : Bytes → ℕ → AdtDecl
decl_at s r = first_decl (node_at (nodes_in s) r).declares.adts

-- its fields, apart from cases
abbrev pub common_fields : Bytes → ℕ → List Fd
common_fields s r = (decl_at s r).fields

-- whether line r is an `adt` line, 65, or a `pick` line, 66
abbrev pub is_record : Bytes → ℕ → Bool
is_record s r = eqb (letter (read_at s (r - 1)).form.kind) 65 || eqb (letter (read_at s (r - 1)).form.kind) 66

-- and in a checked sheet
pub record RecordLine (s : Bytes) (r : ℕ) : Type 0 where
  pub checked : Checked s
  pub first : 0 < r
  pub last : r ≤ lines_in s
  pub kind : is_record s r ≡ true

-- the fields of the case that line r makes
abbrev pub case_fields : Bytes → ℕ → List Fd
case_fields s r = (node_at (nodes_in s) r).case.fields

-- line r of a checked sheet is a `pc` line, 67
abbrev pub CaseLine : Bytes → ℕ → Type 0
CaseLine s r = KindLine 67 s r

-- ---- how far fields reach at most

-- the bytes of an `fd` line, 16 names of 8192 bytes and what aligns them, and of 16 such lines
abbrev pub line_bytes : ℕ
line_bytes = 131080

abbrev pub group_bytes : ℕ
group_bytes = 2097280

-- where the common fields end, behind a tag, and a case's own behind them
abbrev pub common_end : ℕ
common_end = 2097284

abbrev pub case_end : ℕ
case_end = 4194564

-- ---- where lines are placed

-- from p to q by one line
pub record LinePlaced (t : Option Ty) (ns : List Bytes) (p q : Reached) : Type 0 where
  pub end : q.end ≡ (place_line t ns p.end).end
  pub furthest : q.furthest ≡ Layout.furthest p.furthest (place_line t ns p.end).placed

-- and by lines
pub record AllPlaced (fs : List Fd) (p q : Reached) : Type 0 where
  pub end : q.end ≡ (place p.end fs).end
  pub furthest : q.furthest ≡ Layout.furthest p.furthest (place p.end fs).placed

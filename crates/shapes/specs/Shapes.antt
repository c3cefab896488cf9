-- The records that the `adt` and `pick` lines of a checked sheet make.
use Rattle.std.specs.Prelude.{ℕ, ◌+◌, ◌-◌, ◌≤◌, ◌<◌, ◌≡◌, List, [], ◌∷◌, length, get_or}
use Rattle.semantics.specs.Text.{Bytes, or_else}
use Rattle.semantics.specs.Tree.{Case, AdtDecl, Shape, no_case}
use Rattle.semantics.specs.Form.{node_at, number_of}
use Rattle.semantics.specs.Layout as Layout
use Rattle.semantics.specs.Layout.{place, behind_tag, variant_shape, Recorded, records_of}
use Rattle.lines.specs.Lines.{read_at, nodes_in}
use Rattle.checks.specs.Checks.{KindLine}
use Rattle.sizes.specs.declared.place.Reached.{Reached}
use Rattle.sizes.specs.Places.{decl_at, CaseLine, common_end}

-- the record of T itself is the first that a declaration makes
abbrev pub first_shape : List Recorded → Shape
first_shape [] = record { size = 0; pointers = [] }
first_shape (r ∷ rs) = r.shape

unfoldable pub shape_at : Bytes → ℕ → Shape
shape_at s r = first_shape (records_of (decl_at s r))

-- its cases
abbrev pub cases_in : AdtDecl → List Case
cases_in d = or_else [] d.pick

unfoldable pub cases_at : Bytes → ℕ → List Case
cases_at s r = cases_in (decl_at s r)

-- the variants of case c, from 0
unfoldable pub variant_at : Bytes → ℕ → ℕ → Shape
variant_at s r c = variant_shape (decl_at s r).fields (get_or (cases_at s r) c no_case)

-- line r of a checked sheet is a `pick` line, 66
abbrev pub PickLine : Bytes → ℕ → Type 0
PickLine s r = KindLine 66 s r

-- and has a case c
pub record VariantLine (s : Bytes) (r c : ℕ) : Type 0 where
  pub line : PickLine s r
  pub case : c < length (cases_at s r)

-- line v makes case c of line r
pub record CaseOf (s : Bytes) (r c v : ℕ) : Type 0 where
  pub number : v ≡ number_of (get_or (read_at s (r - 1)).fields (length (decl_at s r).fields + 3 + c) [])
  pub line : CaseLine s v
  pub case : (node_at (nodes_in s) v).case ≡ get_or (cases_at s r) c no_case

-- q is behind the common fields of line r, which stand behind the tag word
pub record BehindCommon (s : Bytes) (r : ℕ) (q : Reached) : Type 0 where
  pub end : q.end ≡ (place behind_tag (decl_at s r).fields).end
  pub furthest : q.furthest ≡ Layout.furthest behind_tag (place behind_tag (decl_at s r).fields).placed
  pub within : q.furthest ≤ q.end
  pub small : q.end ≤ common_end

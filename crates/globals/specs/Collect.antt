-- Globals as they are collected: the places that the table holds after some lines.
use Rattle.std.specs.Prelude.{ℕ, ◌*◌, ◌≤◌, ◌≡◌, List, [], ◌∷◌, length}
use Rattle.semantics.specs.Text.{Bytes}
use Rattle.semantics.specs.Tree.{VarDecl, Declares}
use Rattle.semantics.specs.Sheet.{Located, sheet_source}
use Rattle.semantics.specs.Refusal.{sum_of}
use Rattle.semantics.specs.Fold.{Names}
use Rattle.semantics.specs.Global.{globals}
use Rattle.lines.specs.Lines.{nodes_in}
use Rattle.checks.specs.Checks.{Outside}
use Rattle.source.specs.Walk.{declares_at, declared_to}
use Rattle.global_table.specs.Table.{places_in, Tabled}
use Rattle.globals.specs.declared.Globals.{Globals}
use Rattle.globals.specs.Allocation.{Allocation, lay_names}
use Rattle.globals.specs.Vars.{laid_at}

-- the places in the table, and the end of allocation
abbrev pub allocation_in : Bytes → Bytes → Globals → Allocation
allocation_in s t g = record { places = places_in s t g.count; end = g.end }

-- g places are entered, and end within 8 bytes for each
pub record PlacesEntered (s t : Bytes) (g : Globals) : Type 0 where
  pub tabled : Tabled s t g.count
  pub low : g.end ≤ 8 * g.count

-- the working space t has become u, which holds the places l, at most m
pub record PlacesLaid (s t u : Bytes) (l : Allocation) (g : Globals) (m : ℕ) : Type 0 where
  pub standing : PlacesEntered s u g
  pub outside : Outside 7168 9216 t u
  pub allocation : allocation_in s u g ≡ l
  pub most : g.count ≤ m

-- how many names line i declares, from 0, and the first i lines
unfoldable pub names_at : Bytes → ℕ → ℕ
names_at s i = sum_of (λ (v : VarDecl). length v.names) (declares_at (nodes_in s) i).vars

unfoldable pub names_to : Bytes → ℕ → ℕ
names_to s i = sum_of (λ (v : VarDecl). length v.names) (declared_to (λ (d : Declares). d.vars) (nodes_in s) i)

-- what lines add, and line i, from 0, where it counts
unfoldable pub lay_lines : List (Located VarDecl) → Allocation → Allocation
lay_lines [] l = l
lay_lines (v ∷ vs) l = lay_lines vs (lay_names v.it.ty v.it.names l)

unfoldable pub lay_line : Bytes → ℕ → Allocation → Allocation
lay_line s i l = lay_lines (laid_at s i) l

-- all globals of a sheet are entered, whatever names are known to their first values
pub record GlobalsCollected (s t : Bytes) (g : Globals) : Type 0 where
  pub tabled : Tabled s t g.count
  pub places : (ns : Names) → places_in s t g.count ≡ (globals ns (sheet_source s)).places
  pub end : (ns : Names) → g.end ≡ (globals ns (sheet_source s)).end
  pub count : (ns : Names) → g.count ≡ length (globals ns (sheet_source s)).places
  pub low : g.end ≤ 8 * g.count

-- Places of globals by names alone: first values have no part in them.
use Rattle.std.specs.Prelude.{ℕ, ◌+◌, cond, List, [], ◌∷◌, ◌++◌, Option, None, Some}
use Rattle.semantics.specs.Text.{Bytes, bytes, same}
use Rattle.semantics.specs.Tree.{Ty, VarDecl, Declares}
use Rattle.semantics.specs.Sheet.{Located, sheet_source}
use Rattle.semantics.specs.Global.{Global, Globals, place_of, new_offset, global_size}
use Rattle.lines.specs.Lines.{nodes_in}
use Rattle.source.specs.Walk.{located_to}
use Rattle.implement.specs.Modules.{own_in}

-- places in order, and the end of allocation
pub record Allocation : Type 0 where
  pub places : List Global
  pub end : ℕ

abbrev pub no_allocation : Allocation
no_allocation = record { places = []; end = 0 }

abbrev pub allocation_of : Globals → Allocation
allocation_of g = record { places = g.places; end = g.end }

-- one more name of a type: a name met again keeps its place
abbrev pub lay_at : Ty → Bytes → Option ℕ → Allocation → Allocation
lay_at t n (Some off) l = l
lay_at t n None l = record { places = l.places ++ (record { name = n; offset = new_offset t l.end; ty = t } ∷ []); end = new_offset t l.end + global_size t }

-- `nil` has no place
unfoldable pub lay_name : Ty → Bytes → Allocation → Allocation
lay_name t n l = cond (same n (bytes "nil")) l (lay_at t n (place_of n l.places) l)

unfoldable pub lay_names : Ty → List Bytes → Allocation → Allocation
lay_names t [] l = l
lay_names t (n ∷ ns) l = lay_names t ns (lay_name t n l)

-- lines outside modules and in the implemented one count
unfoldable pub lay_vars : Option Bytes → List (Located VarDecl) → Allocation → Allocation
lay_vars impl [] l = l
lay_vars impl (v ∷ vs) l = lay_vars impl vs (cond (own_in impl v.within) (lay_names v.it.ty v.it.names l) l)

-- those of a sheet's first i lines
unfoldable pub laid_to : Bytes → ℕ → Allocation
laid_to s i = lay_vars (sheet_source s).implement (located_to (λ (d : Declares). d.vars) (nodes_in s) i) no_allocation

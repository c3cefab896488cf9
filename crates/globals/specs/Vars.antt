-- The `var` lines that count, and what each leaves where all places are known.
use Rattle.std.specs.Prelude.{ℕ, zero, suc, ◌-◌, cond, Option, None, Some, List, [], ◌∷◌, ◌++◌, eqb}
use Rattle.semantics.specs.Text.{Bytes}
use Rattle.semantics.specs.Tree.{VarDecl}
use Rattle.semantics.specs.Form.{letter}
use Rattle.semantics.specs.Sheet.{Located, concat_map, sheet_source}
use Rattle.semantics.specs.Fold.{Names}
use Rattle.semantics.specs.Global.{Item, Init, Global, init_of, or_no_init, init_items, laid_names, pend_of}
use Rattle.lines.specs.Lines.{read_at, nodes_in}
use Rattle.source.specs.Walk.{open_at, var_of}
use Rattle.implement.specs.Modules.{own_in}
use Rattle.global_table.specs.Table.{offset_in}

-- line i, from 0, as a `var` line
abbrev pub located_at : Bytes → ℕ → Located VarDecl
located_at s i = record { line = suc i; within = open_at (nodes_in s) i; it = var_of (nodes_in s) (read_at s i).fields }

-- line i where it is a `var` line, 72, that counts
abbrev pub laid_at : Bytes → ℕ → List (Located VarDecl)
laid_at s i = cond (eqb (letter (read_at s i).form.kind) 72) (cond (own_in (sheet_source s).implement (open_at (nodes_in s) i)) (located_at s i ∷ []) []) []

-- the `var` line r, from 1
abbrev pub laid_on : Bytes → Option ℕ → List (Located VarDecl)
laid_on s None = []
laid_on s (Some r) = located_at s (r - 1) ∷ []

-- those that count among a sheet's first i lines
unfoldable pub laid_vars_to : Bytes → ℕ → List (Located VarDecl)
laid_vars_to s zero = []
laid_vars_to s (suc i) = laid_vars_to s i ++ laid_at s i

-- the first value of a line
abbrev pub first_init : Names → VarDecl → Init
first_init ns v = or_no_init (init_of ns v.ty v.init)

-- the items of a line's names
abbrev pub var_items : Names → List Global → VarDecl → List Item
var_items ns ps v = concat_map (λ (x : Bytes). init_items (offset_in x ps) v.ty (first_init ns v)) (laid_names v.names)

-- those of lines
abbrev pub line_items : Names → List Global → List (Located VarDecl) → List Item
line_items ns ps vs = concat_map (λ (v : Located VarDecl). var_items ns ps v.it) vs

-- the names of a line that are pending
abbrev pub var_pends : Names → VarDecl → List Bytes
var_pends ns v = concat_map (λ (x : Bytes). pend_of x (first_init ns v)) (laid_names v.names)

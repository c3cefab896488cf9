-- What the first lines of a sheet declare, line by line, and what a line declares by its kind.
use Rattle.std.specs.Prelude.{ℕ, zero, suc, ◌||◌, cond, List, [], ◌∷◌, ◌++◌, map, eqb, get_or, drop, Option, None}
use Rattle.semantics.specs.Text.{Bytes}
use Rattle.semantics.specs.Tree.{ConstDecl, VarDecl, Shape, Declares, Node, no_node}
use Rattle.semantics.specs.Form.{node_at, perhaps_at, number_of, values, ex_of}
use Rattle.semantics.specs.Form.Atom.{name, offset}
use Rattle.semantics.specs.Sheet.{Module, Located, open_after}

-- what line i of nodes declares, from 0
abbrev pub declares_at : List Node → ℕ → Declares
declares_at ns i = (get_or ns i no_node).declares

-- the module that is open before line i, from 0
unfoldable pub open_at : List Node → ℕ → Option Module
open_at ns zero = None
open_at ns (suc i) = open_after (suc i) (declares_at ns i) (open_at ns i)

-- what the first i lines declare
unfoldable pub declared_to : {A : Type 0} → (Declares → List A) → List Node → ℕ → List A
declared_to f ns zero = []
declared_to f ns (suc i) = declared_to f ns i ++ f (declares_at ns i)

unfoldable pub located_to : {A : Type 0} → (Declares → List A) → List Node → ℕ → List (Located A)
located_to f ns zero = []
located_to {A} f ns (suc i) = located_to f ns i ++ map (λ (a : A). record { line = suc i; within = open_at ns i; it = a }) (f (declares_at ns i))

-- field j of a line behind its keywords
abbrev pub field_at : List Bytes → ℕ → Bytes
field_at fs j = get_or fs j []

-- a `con` line with these fields
abbrev pub con_of : List Node → List Bytes → ConstDecl
con_of ns fs = record { name = field_at fs 0; line = number_of (field_at fs 1); col = number_of (field_at fs 2); value = (node_at ns (number_of (field_at fs 3))).ex }

-- a `var` line
abbrev pub var_of : List Node → List Bytes → VarDecl
var_of ns fs = record { ty = (node_at ns (number_of (field_at fs 0))).ty; init = ex_of (perhaps_at ns (number_of (field_at fs 1))); names = values name ns (number_of (field_at fs 2)) (drop 3 fs) }

-- a `frame` line
abbrev pub frame_of : List Node → List Bytes → Shape
frame_of ns fs = record { size = number_of (field_at fs 0); pointers = values offset ns (number_of (field_at fs 1)) (drop 2 fs) }

-- by the letter of the kind: `adt` is 65, `pick` 66, `con` 68, `var` 72, `frame` 71, `need` 78, `mod` 77, `end` 79, `impl` 73; records
-- and needs are those of d
unfoldable pub by_kind : ℕ → List Node → List Bytes → Declares → Declares
by_kind k ns fs d = record {
  adts = cond (eqb k 65 || eqb k 66) d.adts [];
  consts = cond (eqb k 68) (con_of ns fs ∷ []) [];
  vars = cond (eqb k 72) (var_of ns fs ∷ []) [];
  frames = cond (eqb k 71) (frame_of ns fs ∷ []) [];
  needs = cond (eqb k 78) d.needs [];
  opens = cond (eqb k 77) (field_at fs 0 ∷ []) [];
  closes = eqb k 79;
  implements = cond (eqb k 73) (field_at fs 0 ∷ []) [];
}

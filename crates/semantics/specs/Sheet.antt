-- The declarations of a sheet, in its order; records, constants and `var` lines with their line and the module that they stand in.
use Rattle.std.specs.Prelude.{ℕ, suc, cond, List, [], ◌∷◌, ◌++◌, map, Option, None, Some}
use Rattle.semantics.specs.Text.{Bytes, line_parts}
use Rattle.semantics.specs.Tree.{AdtDecl, ConstDecl, VarDecl, Shape, TypeKey, Declares, Node}
use Rattle.semantics.specs.Form.{Read, read_of, node_of}

-- the lines, each read by its form: all parts but the last
abbrev pub reads_of : List Bytes → List Read
reads_of [] = []
reads_of (l ∷ []) = []
reads_of (l ∷ (m ∷ ls)) = read_of l ∷ reads_of (m ∷ ls)

-- the nodes of lines, behind the nodes ns of the lines before them
unfoldable pub nodes_from : List Node → List Read → List Node
nodes_from ns [] = ns
nodes_from ns (r ∷ rs) = nodes_from (ns ++ (node_of ns r ∷ [])) rs

-- a module: the lines from a `mod` line to its `end`
pub record Module : Type 0 where
  pub name : Bytes
  pub line : ℕ

-- something that a line declares, and the module it stands in
pub record Located (A : Type 0) : Type 0 where
  pub line : ℕ
  pub within : Option Module
  pub it : A

abbrev pub opened : ℕ → List Bytes → Option Module → Option Module
opened k [] o = o
opened k (n ∷ ns) o = Some (record { name = n; line = k })

-- the module that is open behind line k
abbrev pub open_after : ℕ → Declares → Option Module → Option Module
open_after k d o = cond d.closes None (opened k d.opens o)

-- what lines declare, from line k on, where the module o is open
abbrev pub located_from : {A : Type 0} → (Declares → List A) → ℕ → Option Module → List Node → List (Located A)
located_from f k o [] = []
located_from {A} f k o (n ∷ ns) =
    map (λ (a : A). record { line = k; within = o; it = a }) (f n.declares) ++ located_from f (suc k) (open_after k n.declares o) ns

abbrev pub located : {A : Type 0} → (Declares → List A) → List Node → List (Located A)
located f ns = located_from f 1 None ns

abbrev pub concat_map : {A B : Type 0} → (A → List B) → List A → List B
concat_map f [] = []
concat_map f (x ∷ xs) = f x ++ concat_map f xs

abbrev pub declared : {A : Type 0} → (Declares → List A) → List Node → List A
declared f ns = concat_map (λ (n : Node). f n.declares) ns

abbrev pub first_of : {A : Type 0} → List A → Option A
first_of [] = None
first_of (x ∷ xs) = Some x

-- a sheet's declarations
pub record Source : Type 0 where
  pub implement : Option Bytes
  pub modules : List Module
  pub adts : List (Located AdtDecl)
  pub consts : List (Located ConstDecl)
  pub vars : List (Located VarDecl)
  pub frames : List Shape
  pub needs : List TypeKey

abbrev pub module_of : Located Bytes → Module
module_of l = record { name = l.it; line = l.line }

abbrev pub source_of : List Node → Source
source_of ns = record {
  implement = first_of (declared (λ (d : Declares). d.implements) ns);
  modules = map module_of (located (λ (d : Declares). d.opens) ns);
  adts = located (λ (d : Declares). d.adts) ns;
  consts = located (λ (d : Declares). d.consts) ns;
  vars = located (λ (d : Declares). d.vars) ns;
  frames = declared (λ (d : Declares). d.frames) ns;
  needs = declared (λ (d : Declares). d.needs) ns;
}

-- the declarations of lines
abbrev pub lines_source : List Bytes → Source
lines_source ls = source_of (nodes_from [] (reads_of ls))

unfoldable pub sheet_source : Bytes → Source
sheet_source s = lines_source (line_parts s)

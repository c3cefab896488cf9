-- How many lines of a sheet types and fields take. Every line is referred to at most once, so no line is counted twice, and the lines of a whole
-- sheet are a bound for those of any of its records.
use Rattle.std.specs.Prelude.{ℕ, suc, ◌+◌, ◌≤◌, List, [], ◌∷◌, length, Option, None, Some}
use Rattle.semantics.specs.Tree.{Ty, Tys, Fd, Case, AdtDecl}
use Rattle.semantics.specs.Tree.Ty.{basic, ptr, array, tuple}
use Rattle.semantics.specs.Tree.Tys.{no_tys, and_ty}
use Rattle.laws.specs.Every.{Every}

-- the `ty` lines of a type: its own and those below it
abbrev mutual
  pub lines_of : Ty → ℕ
  lines_of (basic b) = 1
  lines_of ptr = 1
  lines_of (array t) = suc (lines_of t)
  lines_of (tuple ts) = suc (lines_of_all ts)

  pub lines_of_all : Tys → ℕ
  lines_of_all no_tys = 0
  lines_of_all (and_ty t ts) = lines_of t + lines_of_all ts

abbrev pub type_lines : Option Ty → ℕ
type_lines None = 0
type_lines (Some t) = lines_of t

-- `fd` lines with their types
abbrev pub field_lines : List Fd → ℕ
field_lines [] = 0
field_lines (f ∷ fs) = suc (type_lines f.ty + field_lines fs)

-- `pc` lines with their fields
abbrev pub case_lines : List Case → ℕ
case_lines [] = 0
case_lines (k ∷ ks) = suc (field_lines k.fields + case_lines ks)

abbrev pub pick_lines : Option (List Case) → ℕ
pick_lines None = 0
pick_lines (Some ks) = case_lines ks

-- an `adt` or `pick` line with all that it refers to
abbrev pub decl_lines : AdtDecl → ℕ
decl_lines d = suc (field_lines d.fields + pick_lines d.pick)

-- no `fd` line has more than 16 names: N is a count 0 to 16
abbrev pub FewNames : List Fd → Type 0
FewNames fs = Every (λ (f : Fd). length f.names ≤ 16) fs

abbrev pub FewInPick : Option (List Case) → Type 0
FewInPick None = Unit {0}
FewInPick (Some ks) = Every (λ (k : Case). FewNames k.fields) ks

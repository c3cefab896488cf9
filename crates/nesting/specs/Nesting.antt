-- Refusal 5 over the tables: how deep each line nests.
use Rattle.std.specs.Prelude.{ℕ, suc, ◌+◌, ◌-◌, ◌<◌, ◌≡◌, Bool, true, cond, List, [], ◌∷◌, ◌++◌, length, get_or, ltb, eqb}
use Rattle.semantics.specs.Text.{Bytes, all}
use Rattle.semantics.specs.Form.{Read}
use Rattle.semantics.specs.Refusal.{Ref, refs_of, deepest}
use Rattle.refs.specs.Refs.{is_ref}

unfoldable pub depth_at : Bytes → ℕ → ℕ
depth_at t i = get_or t (4096 + i) 0

-- of the line that a field of line i refers to, where the field has letter x and number v
unfoldable pub ref_depth : Bytes → ℕ → ℕ → ℕ → ℕ
ref_depth t i x v = cond (is_ref x) (cond (eqb v 0) 0 (cond (ltb i v) 0 (depth_at t (v - 1)))) 0

-- the table holds the depths ds of the first i lines
pub record Depths (t : Bytes) (ds : List ℕ) (i : ℕ) : Type 0 where
  pub count : length ds ≡ i
  pub each : (j : ℕ) → j < i → depth_at t j ≡ get_or ds j 0

-- ---- the depths of lines, behind the depths ds of the lines before them

unfoldable pub depths_from : List ℕ → List Read → List ℕ
depths_from ds [] = ds
depths_from ds (l ∷ ls) = depths_from (ds ++ (suc (deepest ds (refs_of l)) ∷ [])) ls

abbrev pub depth_of : List Read → ℕ → ℕ
depth_of ls i = get_or (depths_from [] ls) i 0

-- whether references go to lines that are less deep than line i
unfoldable pub lower_refs : List Read → ℕ → List Ref → Bool
lower_refs ls i rs = all (λ (r : Ref). cond (eqb r.line 0) true (ltb (depth_of ls (r.line - 1)) (depth_of ls i))) rs

-- Constant lines, second half: the constants of a sheet in their passes.
use Rattle.std.specs.Prelude.{ℕ, suc, Bool, ◌&&◌, cond, List, [], ◌∷◌, ◌++◌, map, pos, eqb, Option, None, Some}
use Rattle.semantics.specs.Text.{Bytes, filter, is_none, holds_of}
use Rattle.semantics.specs.Tree.{ConstVal, ConstDecl}
use Rattle.semantics.specs.Sheet.{Module, Located, Source}
use Rattle.semantics.specs.Fold.{Result, Const, Names, plain, qualified, same_option, fold}
use Rattle.semantics.specs.Fold.Result.{ok, failed, refuse}

-- ---- the iota counter

-- LINE and COL of the previous constant, none before the first of a pass, and the next value
pub record IotaCounter : Type 0 where
  pub group : Option (ℕ × ℕ)
  pub value : ℕ

abbrev pub new_counter : IotaCounter
new_counter = record { group = None; value = 0 }

abbrev pub same_group : ℕ → ℕ → Option (ℕ × ℕ) → Bool
same_group line col g = holds_of (λ (p : ℕ × ℕ). eqb line p.0 && eqb col p.1) g

-- iota's value at a constant: it restarts where LINE or COL differs from the previous constant
abbrev pub iota_at : ℕ → ℕ → IotaCounter → ℕ
iota_at line col i = cond (same_group line col i.group) i.value 0

-- the counter, moved on
unfoldable pub iota_next : ℕ → ℕ → IotaCounter → IotaCounter
iota_next line col i = record { group = Some (line, col); value = suc (iota_at line col i) }

-- ---- a pass

-- a refusal's number and line
pub record Refusal : Type 0 where
  pub number : ℕ
  pub line : ℕ

-- the constants folded so far, the newest first, and the refusal that ended the work
pub record Folding : Type 0 where
  pub log : List Const
  pub refused : Option Refusal

-- whether the sheet implements a module
abbrev pub implements : Option Bytes → Option Module → Bool
implements impl m = holds_of (λ (n : Module). same_option impl (Some n.name)) m

-- a constant enters as NAME outside modules and as M->NAME in M; the `impl` module's names are also plain
abbrev pub entries : Option Bytes → Option Module → Bytes → Option ConstVal → List Const
entries impl None n v = record { key = plain n; value = v } ∷ []
entries impl (Some m) n v =
    (cond (implements impl (Some m)) (record { key = plain n; value = v } ∷ []) [])
    ++ (record { key = qualified m.name n; value = v } ∷ [])

abbrev pub entered : Option Bytes → Located ConstDecl → Result ConstVal → (List Const → Folding) → List Const → Folding
entered impl c (ok v) go log = go (entries impl c.within c.it.name (Some v) ++ log)
entered impl c failed go log = go (entries impl c.within c.it.name None ++ log)
entered impl c (refuse r) go log = record { log = log; refused = Some (record { number = r; line = c.line }) }

abbrev pub pass : Option Bytes → List (Located ConstDecl) → IotaCounter → List Const → Folding
pass impl [] i log = record { log = log; refused = None }
pass impl (c ∷ cs) i log =
    let d = c.it in
    entered impl c (fold (record { log = log }) (pos (iota_at d.line d.col i)) d.value) (pass impl cs (iota_next d.line d.col i)) log

-- ---- the passes: one per module, and then one for the top level

abbrev pub stands_in : Module → Located ConstDecl → Bool
stands_in m c = holds_of (λ (n : Module). eqb n.line m.line) c.within

abbrev pub module_passes : Source → List (List (Located ConstDecl))
module_passes s = map (λ (m : Module). filter (stands_in m) s.consts) s.modules

abbrev pub top_level : Source → List (Located ConstDecl)
top_level s = filter (λ (c : Located ConstDecl). is_none c.within) s.consts

abbrev pub passes_of : Source → List (List (Located ConstDecl))
passes_of s = module_passes s ++ (top_level s ∷ [])

abbrev pub and_then : Folding → (List Const → Folding) → Folding
and_then f go = cond (is_none f.refused) (go f.log) f

abbrev pub passes_from : Option Bytes → List (List (Located ConstDecl)) → List Const → Folding
passes_from impl [] log = record { log = log; refused = None }
passes_from impl (p ∷ ps) log = and_then (pass impl p new_counter log) (passes_from impl ps)

unfoldable pub constants : Source → Folding
constants s = passes_from s.implement (passes_of s) []

-- what `var` lines know of names: all constants
abbrev pub names_of : Source → Names
names_of s = record { log = (constants s).log }

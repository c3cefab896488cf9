-- The constants of a sheet pass by pass, as a walk over its lines meets them. Lines are counted from 0 here.
use Rattle.std.specs.Prelude.{ℕ, zero, suc, ◌+◌, ◌≤◌, ◌<◌, ◌≡◌, Bool, not, ◌&&◌, List, [], ◌∷◌, ◌++◌, map, leb, eqb, pos, length, drop, None, Some, Result, Ok, Err}
use Rattle.semantics.specs.Text.{Bytes, filter, is_none, holds_of}
use Rattle.semantics.specs.Tree.{ConstDecl, Declares, Node}
use Rattle.semantics.specs.Form.{letter}
use Rattle.semantics.specs.Sheet.{Module, Located, located_from, module_of, sheet_source}
use Rattle.semantics.specs.Fold.{Const, fold}
use Rattle.semantics.specs.Const.{Refusal, Folding, new_counter, entered, pass, passes_from, stands_in, top_level, constants}
use Rattle.lines.specs.Lines.{lines_in, read_at, nodes_in}
use Rattle.implement.specs.Modules.{module_at, line_number}
use Rattle.checks.specs.Checks.{Checked}
use Rattle.source.specs.Walk.{open_at, con_of}
use Rattle.names.specs.Table.{log_in, names_in, ConstsLogged}
use Rattle.iota.specs.Iota.{counter_of}
use Rattle.answers.specs.declared.Refusal as Answers
use Rattle.answers.specs.Answers.{refusal_number, refusal_of}
use Rattle.consts.specs.declared.Pass.{Pass}

-- what the lines from line i on declare
unfoldable pub rest_from : {A : Type 0} → (Declares → List A) → List Node → ℕ → List (Located A)
rest_from f ns i = located_from f (suc i) (open_at ns i) (drop i ns)

-- the constants of the module of line k, and for 0 those of the top level
abbrev pub in_group : ℕ → Located ConstDecl → Bool
in_group zero c = is_none c.within
in_group (suc k) c = holds_of (λ (m : Module). eqb m.line (suc k)) c.within

-- those that the lines from line i on declare
unfoldable pub group_from : Bytes → ℕ → ℕ → List (Located ConstDecl)
group_from s k i = filter (in_group k) (rest_from (λ (d : Declares). d.consts) (nodes_in s) i)

-- the passes of the modules that open on line i or later, and of the top level
unfoldable pub passes_after : Bytes → ℕ → List (List (Located ConstDecl))
passes_after s i =
    map (λ (m : Module). filter (stands_in m) (sheet_source s).consts) (map module_of (rest_from (λ (d : Declares). d.opens) (nodes_in s) i))
    ++ (top_level (sheet_source s) ∷ [])

-- the constants of modules that open before line i
abbrev pub in_earlier : ℕ → Located ConstDecl → Bool
in_earlier i c = holds_of (λ (m : Module). leb m.line i) c.within

-- how many constants they have
unfoldable pub count_before : Bytes → ℕ → ℕ
count_before s i = length (filter (in_earlier i) (sheet_source s).consts)

-- the constant of a `con` line in the module of line o
abbrev pub const_at : Bytes → ℕ → ℕ → Located ConstDecl
const_at s o i = record { line = suc i; within = module_at s o; it = con_of (nodes_in s) (read_at s i).fields }

-- whether a pass over the group k is done where the module of line `within` is open; the top level's goes on over modules
unfoldable pub left : ℕ → ℕ → Bool
left k within = not (eqb k 0) && not (eqb within k)

-- ---- one constant

-- line i of a checked sheet is a `con` line, 68, in the module of line k, and there is room for an entry m
pub record ConstLine (s t : Bytes) (m k i : ℕ) : Type 0 where
  pub checked : Checked s
  pub logged : ConstsLogged s t m
  pub few : m < 128
  pub line : i < lines_in s
  pub kind : letter (read_at s i).form.kind ≡ 68
  pub group : k ≤ lines_in s

-- what a pass makes of it, and goes on with
abbrev pub step : Bytes → Bytes → ℕ → ℕ → ℕ → ℕ → (List Const → Folding) → Folding
step s t m k i iota go =
    let c = const_at s k i in
    entered (sheet_source s).implement c (fold (names_in s t m) (pos iota) c.it.value) go (log_in s t m)

-- refusal 8 at line j, from 1
abbrev pub too_long : ℕ → Refusal
too_long j = record { number = 8; line = j }

-- it is entered, or its string is too long
abbrev pub ConstantEntered : Bytes → Bytes → Bytes → ℕ → ℕ → ℕ → ℕ → Result Unit Answers.Refusal → Type 0
ConstantEntered s t u m k i iota (Ok x) = ConstsLogged s u (m + 1) × ((go : List Const → Folding) → step s t m k i iota go ≡ go (log_in s u (m + 1)))
ConstantEntered s t u m k i iota (Err r) = ((go : List Const → Folding) → step s t m k i iota go ≡ record { log = log_in s t m; refused = Some (refusal_of r) }) × (refusal_of r ≡ too_long (suc i))

-- ---- a pass

-- where a pass over the group k stands
pub record PassAt (s t : Bytes) (k : ℕ) (p : Pass) : Type 0 where
  pub checked : Checked s
  pub logged : ConstsLogged s t p.count
  pub inside : p.line ≤ lines_in s
  pub low : line_number p.within ≤ lines_in s
  pub group : k ≤ lines_in s
  pub opened : open_at (nodes_in s) p.line ≡ module_at s (line_number p.within)
  pub room : p.count + length (group_from s k p.line) ≤ 128
  pub small : p.iota.value ≤ p.count

-- it stands at a constant of the group
pub record AtConstant (s : Bytes) (k : ℕ) (p : Pass) : Type 0 where
  pub line : p.line < lines_in s
  pub kind : letter (read_at s p.line).form.kind ≡ 68
  pub own : line_number p.within ≡ k

-- what it comes to from there
unfoldable pub pass_from : Bytes → Bytes → ℕ → Pass → Folding
pass_from s t k p = pass (sheet_source s).implement (group_from s k p.line) (counter_of p.iota) (log_in s t p.count)

-- from p one line on to q
pub record PassMoves (s t u : Bytes) (k : ℕ) (p q : Pass) : Type 0 where
  pub stands : PassAt s u k q
  pub next : q.line ≡ p.line + 1
  pub same : pass_from s u k q ≡ pass_from s t k p
  pub count : q.count + length (group_from s k q.line) ≡ p.count + length (group_from s k p.line)

-- a line is visited: the pass moves on, or a line is refused by 8
abbrev pub Visits : Bytes → Bytes → Bytes → ℕ → Pass → Result Pass Answers.Refusal → Type 0
Visits s t u k p (Ok q) = PassMoves s t u k p q
Visits s t u k p (Err r) = ((pass_from s t k p).refused ≡ Some (refusal_of r)) × (refusal_number r ≡ 8)

-- a group whose constants are to be entered from entry m on
pub record Group (s t : Bytes) (m k : ℕ) : Type 0 where
  pub checked : Checked s
  pub logged : ConstsLogged s t m
  pub group : k ≤ lines_in s
  pub opened : open_at (nodes_in s) k ≡ module_at s k
  pub room : m + length (group_from s k 0) ≤ 128

-- they are entered, up to entry m
pub record Logs (s u : Bytes) (m : ℕ) (f : Folding) : Type 0 where
  pub logged : ConstsLogged s u m
  pub same : f ≡ record { log = log_in s u m; refused = None }

-- a pass over the group of line k is done: c entries stand then, or a line is refused by 8
abbrev pub PassDone : Bytes → Bytes → Bytes → ℕ → ℕ → Result ℕ Answers.Refusal → Type 0
PassDone s t u m k (Ok c) =
    Logs s u c (pass (sheet_source s).implement (group_from s k 0) new_counter (log_in s t m)) × (c ≡ m + length (group_from s k 0))
PassDone s t u m k (Err r) = ((pass (sheet_source s).implement (group_from s k 0) new_counter (log_in s t m)).refused ≡ Some (refusal_of r)) × (refusal_number r ≡ 8)

-- ---- all passes

-- the passes of the modules that open before line i are done, and their constants are the first m
pub record PassesBefore (s t : Bytes) (m i : ℕ) : Type 0 where
  pub checked : Checked s
  pub logged : ConstsLogged s t m
  pub few : m ≤ count_before s i

-- what the passes from line i on give
unfoldable pub passes_left : Bytes → Bytes → ℕ → ℕ → Folding
passes_left s t m i = passes_from (sheet_source s).implement (passes_after s i) (log_in s t m)

-- line i is done: the passes behind it give what was left, or a line is refused by 8
abbrev pub ModulePassed : Bytes → Bytes → Bytes → ℕ → ℕ → Result ℕ Answers.Refusal → Type 0
ModulePassed s t u m i (Ok c) = PassesBefore s u c (i + 1) × (passes_left s u c (i + 1) ≡ passes_left s t m i)
ModulePassed s t u m i (Err r) = ((passes_left s t m i).refused ≡ Some (refusal_of r)) × (refusal_number r ≡ 8)

-- the constants are the first m of the table, or a line is refused by 8
abbrev pub Collects : Bytes → Bytes → Result ℕ Answers.Refusal → Type 0
Collects s u (Ok m) = ((constants (sheet_source s)).refused ≡ None) × ((constants (sheet_source s)).log ≡ log_in s u m) × ConstsLogged s u m
Collects s u (Err r) = ((constants (sheet_source s)).refused ≡ Some (refusal_of r)) × (refusal_number r ≡ 8)

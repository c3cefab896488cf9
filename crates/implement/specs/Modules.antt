-- Modules by the numbers of their lines.
use Rattle.std.specs.Prelude.{ℕ, zero, suc, ◌-◌, ◌≤◌, ◌≡◌, Bool, ◌||◌, [], get_or, Option, None, Some}
use Rattle.semantics.specs.Text.{Bytes, is_none}
use Rattle.semantics.specs.Sheet.{Module, sheet_source}
use Rattle.semantics.specs.Const.{implements}
use Rattle.lines.specs.Lines.{lines_in, read_at, nodes_in}
use Rattle.checks.specs.Checks.{Checked}
use Rattle.source.specs.Walk.{open_at}

-- the first field of line k behind its keywords
abbrev pub first_field : Bytes → ℕ → Bytes
first_field s k = get_or (read_at s (k - 1)).fields 0 []

-- the module of a `mod` line, none for 0
unfoldable pub module_at : Bytes → ℕ → Option Module
module_at s zero = None
module_at s (suc k) = Some (record { name = first_field s (suc k); line = suc k })

-- whether what is declared in a module is the sheet's own: outside modules, and in the implemented one
abbrev pub own_in : Option Bytes → Option Module → Bool
own_in impl m = is_none m || implements impl m

-- the number of a line that is counted from 0; 0 for none
abbrev pub line_number : Option ℕ → ℕ
line_number None = 0
line_number (Some i) = suc i

-- in the module of line k, none for 0
abbrev pub is_own : Bytes → ℕ → Bool
is_own s k = own_in (sheet_source s).implement (module_at s k)

-- the module of line k is open before line i, both from 0
pub record Open (s : Bytes) (i : ℕ) (k : Option ℕ) : Type 0 where
  pub checked : Checked s
  pub within : i ≤ lines_in s
  pub low : line_number k ≤ lines_in s
  pub here : module_at s (line_number k) ≡ open_at (nodes_in s) i

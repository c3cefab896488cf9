-- The lines of a sheet, and the table of them. Lines are counted from 0 here.
use Rattle.std.specs.Prelude.{ℕ, Result, Ok, Err, ◌+◌, ◌*◌, ◌/◌, ◌%◌, ◌≤◌, ◌<◌, ◌≡◌, true, List, [], length, drop, get_or, set}
use Rattle.semantics.specs.Text.{Bytes, line_parts}
use Rattle.semantics.specs.Form.{Read, forms, row_of, formed}
use Rattle.semantics.specs.Tree.{Node}
use Rattle.semantics.specs.Sheet.{reads_of, nodes_from}
use Rattle.semantics.specs.Refusal.{bad_form, no_read}
use Rattle.answers.specs.declared.Refusal.{Refusal}
use Rattle.answers.specs.declared.Refusal.TheVariants.{NoForm}
use Rattle.answers.specs.Answers.{first_line}

-- the bytes of line i
abbrev pub text_at : Bytes → ℕ → Bytes
text_at s i = get_or (line_parts s) i []

-- the number of its form
abbrev pub form_at : Bytes → ℕ → ℕ
form_at s i = row_of forms (text_at s i)

-- the lines, each read by its form, and line i among them
abbrev pub reads_in : Bytes → List Read
reads_in s = reads_of (line_parts s)

abbrev pub read_at : Bytes → ℕ → Read
read_at s i = get_or (reads_in s) i no_read

-- how many there are
unfoldable pub lines_in : Bytes → ℕ
lines_in s = length (reads_in s)

-- what the lines make
abbrev pub nodes_in : Bytes → List Node
nodes_in s = nodes_from [] (reads_in s)

-- each line has its form and ends in LF
pub record Whole (s : Bytes) : Type 0 where
  pub few : lines_in s ≤ 1024
  pub count : length (line_parts s) ≡ lines_in s + 1
  pub good : (i : ℕ) → i < lines_in s → formed (i + 1) (text_at s i) ≡ true

-- ---- the table of lines, 1,024 bytes each: where a line starts, low and high byte, and its form

unfoldable pub start : Bytes → ℕ → ℕ
start t i = get_or t i 0 + 256 * get_or t (1024 + i) 0

unfoldable pub form_kept : Bytes → ℕ → ℕ
form_kept t i = get_or t (2048 + i) 0

unfoldable pub line_entered : Bytes → ℕ → ℕ → ℕ → Bytes
line_entered t i a f = set (set (set t i (a % 256)) (1024 + i) (a / 256)) (2048 + i) f

-- the table t holds the first n lines
pub record Lined (s t : Bytes) (n : ℕ) : Type 0 where
  pub few : n ≤ 1024
  pub at : (i : ℕ) → i < n → line_parts (drop (start t i) s) ≡ drop i (line_parts s)
  pub within : (i : ℕ) → i < n → start t i ≤ length s
  pub row : (i : ℕ) → i < n → form_kept t i ≡ form_at s i
  pub good : (i : ℕ) → i < n → formed (i + 1) (text_at s i) ≡ true

-- it holds all lines, of which there are n
pub record Indexed (s t : Bytes) (n : ℕ) : Type 0 where
  pub long : length t ≡ 3072
  pub whole : Whole s
  pub count : n ≡ lines_in s
  pub lined : Lined s t (lines_in s)

-- what the pass over the forms answers
abbrev pub Passed : Bytes → Bytes → Result ℕ Refusal → Type 0
Passed s t (Ok n) = Indexed s t n × (bad_form 1 (line_parts s) ≡ 0)
Passed s t (Err r) = Err r ≡ first_line (λ k. NoForm k) (bad_form 1 (line_parts s))

-- Refusals 1 to 7 together, and what holds of a sheet that passes them.
use Rattle.std.specs.Prelude.{ℕ, Result, Ok, Err, ◌-◌, ◌≤◌, ◌<◌, ◌≡◌, true, false, [], length, take, drop}
use Rattle.semantics.specs.Text.{Bytes}
use Rattle.semantics.specs.Form.{letter}
use Rattle.semantics.specs.Refusal.{Outcome, refused, zeros, refs_of, bad_ref_from, bad_module_from}
use Rattle.lines.specs.Lines.{reads_in, read_at, nodes_in, lines_in, Whole, Indexed}
use Rattle.refs.specs.Refs.{fine_refs, uses_in}
use Rattle.nesting.specs.Nesting.{depth_of, lower_refs}
use Rattle.counts.specs.Counts.{Bounded}
use Rattle.answers.specs.declared.Refusal.{Refusal}
use Rattle.answers.specs.Answers.{refusal_number, refusal_line}

-- what an answer makes of the outcome of a sheet that passes: 01's number and line where it is refused
abbrev pub settled : Result ℕ Refusal → Outcome → Outcome
settled (Ok n) o = o
settled (Err r) o = refused (refusal_number r) (refusal_line r)

-- what holds of a sheet that passes
pub record Checked (s : Bytes) : Type 0 where
  pub whole : Whole s
  pub good : bad_ref_from (reads_in s) 1 [] (reads_in s) ≡ 0
  pub fine : (i : ℕ) → i < lines_in s → fine_refs (reads_in s) i (refs_of (read_at s i)) ≡ true
  pub once : (r : ℕ) → 0 < r → uses_in r (reads_in s) ≤ 1
  pub low : (i : ℕ) → i < lines_in s → depth_of (reads_in s) i ≤ 32
  pub falls : (i : ℕ) → i < lines_in s → lower_refs (reads_in s) i (refs_of (read_at s i)) ≡ true
  pub modules : bad_module_from 1 false (reads_in s) ≡ 0
  pub bounds : Bounded (nodes_in s)

-- line r, from 1, of a checked sheet has the kind whose letter is k
pub record KindLine (k : ℕ) (s : Bytes) (r : ℕ) : Type 0 where
  pub checked : Checked s
  pub first : 0 < r
  pub last : r ≤ lines_in s
  pub kind : letter (read_at s (r - 1)).form.kind ≡ k

-- of the working space t what stands below k is kept in u
pub record Kept (k : ℕ) (t u : Bytes) : Type 0 where
  pub below : take k u ≡ take k t
  pub long : length u ≡ length t

-- u is as long as t and holds the same bytes but from a up to b
pub record Outside (a b : ℕ) (t u : Bytes) : Type 0 where
  pub kept : Kept a t u
  pub above : drop b u ≡ drop b t

-- a sheet that passes has n lines, and t is the table of them
abbrev pub Passes : Bytes → Bytes → Result ℕ Refusal → Type 0
Passes s t (Ok n) = Indexed s t n × Checked s
Passes s t (Err r) = Unit {0}

-- which stands first in the working space t of w bytes
abbrev pub PassesChecks : Bytes → ℕ → Bytes → Result ℕ Refusal → Type 0
PassesChecks s w t (Ok n) = Passes s (take 3072 t) (Ok n) × (65536 ≤ w)
PassesChecks s w t (Err r) = Unit {0}

-- and zeros stand there where it is refused
abbrev pub CheckedTable : Bytes → ℕ → Bytes → Result ℕ Refusal → Type 0
CheckedTable s w t (Ok n) = PassesChecks s w t (Ok n)
CheckedTable s w t (Err r) = t ≡ zeros w

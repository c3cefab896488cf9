-- What compiling leaves, step by step.
use Rattle.std.specs.Prelude.{ℕ, Result, Ok, Err, ◌≤◌, ◌≡◌, length, take, None, Some}
use Rattle.semantics.specs.Text.{Bytes}
use Rattle.semantics.specs.Sheet.{sheet_source}
use Rattle.semantics.specs.Const.{names_of}
use Rattle.semantics.specs.Global.{laid_vars, vars_refused}
use Rattle.semantics.specs.Refusal.{Outcome, listed, refused, zeros, padded, listing_bytes, source_globals, source_listing, compiled}
use Rattle.lines.specs.Lines.{Indexed}
use Rattle.checks.specs.Checks.{Checked}
use Rattle.write.specs.declared.Writer.{Writer}
use Rattle.write.specs.Writes.{Writes}
use Rattle.answers.specs.declared.Refusal.{Refusal}
use Rattle.answers.specs.Answers.{refusal_number, refusal_line, refusal_of}
use Rattle.compile.specs.declared.Listed.{Listed}

-- o is what compiling a checked sheet gives: the listing of p bytes stands on L bytes, and `end` is where allocation ends
pub record ListingStands (s : Bytes) (o : Outcome) (L p end : ℕ) (d : Bytes) : Type 0 where
  pub outcome : o ≡ listed (source_listing (sheet_source s))
  pub long : p ≡ length (source_listing (sheet_source s))
  pub room : p ≤ L
  pub bytes : d ≡ padded L (source_listing (sheet_source s))
  pub ends : end ≡ (source_globals (sheet_source s)).end
  pub checked : Checked s

-- the table of the sheet's lines stands first in the working space u of W bytes
pub record LinesStand (s : Bytes) (W : ℕ) (u : Bytes) : Type 0 where
  pub work : 65536 ≤ W
  pub lines : ℕ
  pub table : Indexed s (take 3072 u) lines

abbrev pub TableStands : Bytes → ℕ → Bytes → Result Listed Refusal → Type 0
TableStands s W u (Ok x) = LinesStand s W u
TableStands s W u (Err r) = Unit {0}

-- the sheet is refused by r, and the L bytes of the listing and the W bytes of the working space are zero
pub record Refuses (o : Outcome) (L W : ℕ) (r : Refusal) (d u : Bytes) : Type 0 where
  pub outcome : o ≡ refused (refusal_number r) (refusal_line r)
  pub bytes : d ≡ zeros L
  pub work : u ≡ zeros W

-- the answer where o is the outcome, before the buffers of a refused sheet are zeroed, and after
abbrev pub Tries : Bytes → Outcome → ℕ → Result Listed Refusal → Bytes → Type 0
Tries s o L (Ok x) d = ListingStands s o L x.length x.end d
Tries s o L (Err r) d = o ≡ refused (refusal_number r) (refusal_line r)

abbrev pub Lists : Bytes → ℕ → ℕ → Result Listed Refusal → Bytes → Bytes → Type 0
Lists s L W (Ok x) d u = ListingStands s (compiled L W s) L x.length x.end d × LinesStand s W u
Lists s L W (Err r) d u = Refuses (compiled L W s) L W r d u

-- the rows of a sheet whose tables stand were written; or what a first value's line refuses
abbrev pub RowsPut : Bytes → Writer → Writer → Result Unit Refusal → Type 0
RowsPut s v w (Ok x) = (vars_refused (names_of (sheet_source s)) (laid_vars (sheet_source s)) ≡ None) × Writes v (source_listing (sheet_source s)) w × Checked s
RowsPut s v w (Err r) = vars_refused (names_of (sheet_source s)) (laid_vars (sheet_source s)) ≡ Some (refusal_of r)

-- the outcome that an answer says, with the bytes d of the listing's buffer
abbrev pub answered : Result ℕ Refusal → Bytes → Outcome
answered (Ok n) d = listed (take n d)
answered (Err r) d = refused (refusal_number r) (refusal_line r)

-- the bytes of the listing that it counts
abbrev pub length_of : Result ℕ Refusal → ℕ
length_of (Ok n) = n
length_of (Err r) = 0

-- of the sheet s, with L and W bytes lent: the answer a, the listing's bytes d and those of the working space u
pub record Compiles (s : Bytes) (L W : ℕ) (a : Result ℕ Refusal) (d u : Bytes) : Type 0 where
  pub answer : answered a d ≡ compiled L W s
  pub within : length_of a ≤ L
  pub listing_is : d ≡ padded L (listing_bytes (compiled L W s))
  pub work_is : u ≡ zeros W
  pub long : length_of a ≡ length (listing_bytes (compiled L W s))

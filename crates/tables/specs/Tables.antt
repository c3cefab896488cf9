-- What the tables of a checked sheet hold.
use Rattle.std.specs.Prelude.{ℕ, ◌≡◌, length, None, Some, Result, Ok, Err}
use Rattle.semantics.specs.Text.{Bytes}
use Rattle.semantics.specs.Sheet.{sheet_source}
use Rattle.semantics.specs.Const.{constants}
use Rattle.checks.specs.Checks.{Checked}
use Rattle.answers.specs.declared.Refusal.{Refusal}
use Rattle.answers.specs.Answers.{refusal_number, refusal_of}
use Rattle.names.specs.Table as Names
use Rattle.names.specs.Table.{log_in}
use Rattle.globals.specs.Collect as Globals
use Rattle.records.specs.Log as Records
use Rattle.type_keys.specs.Table.{Needs, Kinds}
use Rattle.tables.specs.declared.Tables.{Tables}

-- the working space t has all tables of the checked sheet s, of as many entries as x counts
pub record TablesHeld (s t : Bytes) (x : Tables) : Type 0 where
  pub checked : Checked s
  pub consts : Names.ConstsLogged s t x.consts
  pub globals : Globals.GlobalsCollected s t (record { count = x.globals; end = x.end })
  pub records : Records.RecordsLogged s t x.records
  pub count : x.needs ≡ length (sheet_source s).needs
  pub needs : Needs s t (sheet_source s).needs
  pub kinds : Kinds t (sheet_source s).needs x.keys

-- the constants are those of the sheet, or a line of them is refused by 8
abbrev pub MakesTables : Bytes → Bytes → Result Tables Refusal → Type 0
MakesTables s t (Ok x) = TablesHeld s t x × ((constants (sheet_source s)).refused ≡ None) × ((constants (sheet_source s)).log ≡ log_in s t x.consts)
MakesTables s t (Err r) = ((constants (sheet_source s)).refused ≡ Some (refusal_of r)) × (refusal_number r ≡ 8)

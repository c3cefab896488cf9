-- The table of keys while one line after the other is entered.
use Rattle.std.specs.Prelude.{ℕ, ◌≤◌, ◌<◌, ◌≡◌, length, Option, None, Some}
use Rattle.codes.specs.declared.element.Element.{Element}
use Rattle.codes.specs.Kinds.{element_kind}
use Rattle.semantics.specs.Text.{Bytes}
use Rattle.lines.specs.Lines.{lines_in, text_at}
use Rattle.checks.specs.Checks.{Checked}
use Rattle.words.specs.Words.{digest}
use Rattle.chains.specs.Chains.{digest_at, Chained}
use Rattle.type_lines.specs.Needs.{NeedLine, needs_to}
use Rattle.type_keys.specs.Table.{need_line_of, need_chains, kind_entered, Needs, Kinds}

-- need q is in the table, with its digest
pub record NeedEntry (s t : Bytes) (q : ℕ) : Type 0 where
  pub low : q < 128
  pub line : NeedLine s (need_line_of t q)
  pub digest : digest_at t need_chains q ≡ digest (text_at s (need_line_of t q))

-- the table has what the first i lines need
pub record Collecting (s t : Bytes) (i needs keys : ℕ) : Type 0 where
  pub checked : Checked s
  pub within : i ≤ lines_in s
  pub count : needs ≡ length (needs_to s i)
  pub table : Needs s t (needs_to s i)
  pub kinds : Kinds t (needs_to s i) keys
  pub digests : (q : ℕ) → q < needs → digest_at t need_chains q ≡ digest (text_at s (need_line_of t q))
  pub chained : Chained t need_chains needs

-- and line i, which is to be entered next, is a `need` line
pub record NeedNext (s t : Bytes) (i needs keys : ℕ) : Type 0 where
  pub collecting : Collecting s t i needs keys
  pub line : NeedLine s i

-- the kind of element that a need asks for, if any, has position p
abbrev pub kind_by_need : Bytes → Option Element → ℕ → Bytes
kind_by_need t None p = t
kind_by_need t (Some k) p = kind_entered t (element_kind k) p

-- Refusal 7 by lines: what each line adds to the counts, by its kind.
use Rattle.std.specs.Prelude.{ℕ, ◌+◌, ◌≤◌, cond, not, ◌&&◌, List, [], ◌∷◌, length, get_or, eqb}
use Rattle.semantics.specs.Tree.{AdtDecl, VarDecl, Declares, Node}
use Rattle.semantics.specs.Form.{Read, letter, number_of}
use Rattle.semantics.specs.Sheet.{declared}
use Rattle.semantics.specs.Refusal.{Ref, Counts, line_at, refs_of, sum_of, record_count}
use Rattle.counts.specs.declared.Tally.{Tally}

abbrev pub counts_of : Tally → Counts
counts_of t = record { consts = t.consts; needs = t.needs; frames = t.frames; records = t.records; names = t.names }

-- field j of a line behind its keywords, as a number
abbrev pub field_number : Read → ℕ → ℕ
field_number l j = number_of (get_or l.fields j [])

-- the tags of the cases among references: a `pc` line, 67, begins with their count
abbrev pub tags_in : List Read → List Ref → ℕ
tags_in ls [] = 0
tags_in ls (r ∷ rs) = cond (eqb r.kind 67 && not r.optional) (field_number (line_at ls r.line) 0) 0 + tags_in ls rs

abbrev pub one_of : ℕ → ℕ → ℕ
one_of k j = cond (eqb k j) 1 0

-- an `adt` line, 65, is one record; a `pick` line, 66, one and one for each tag
unfoldable pub records_on : List Read → Read → ℕ
records_on ls l = cond (eqb (letter l.form.kind) 65) 1 (cond (eqb (letter l.form.kind) 66) (1 + tags_in ls (refs_of l)) 0)

-- the names of a `var` line, 72
unfoldable pub var_names : Read → ℕ
var_names l = cond (eqb (letter l.form.kind) 72) (field_number l 2) 0

-- `con` is 68, `need` 78 and `frame` 71
unfoldable pub added : List Read → Read → Counts → Counts
added ls l c = record {
  consts = c.consts + one_of (letter l.form.kind) 68;
  needs = c.needs + one_of (letter l.form.kind) 78;
  frames = c.frames + one_of (letter l.form.kind) 71;
  records = c.records + records_on ls l;
  names = c.names + var_names l;
}

-- what nodes declare is within the bounds
pub record Bounded (ns : List Node) : Type 0 where
  pub consts : length (declared (λ (d : Declares). d.consts) ns) ≤ 128
  pub needs : length (declared (λ (d : Declares). d.needs) ns) ≤ 128
  pub frames : length (declared (λ (d : Declares). d.frames) ns) ≤ 128
  pub records : sum_of (λ (a : AdtDecl). record_count a.pick) (declared (λ (d : Declares). d.adts) ns) ≤ 128
  pub names : sum_of (λ (v : VarDecl). length v.names) (declared (λ (d : Declares). d.vars) ns) ≤ 256

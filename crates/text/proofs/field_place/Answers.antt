-- `text::field_place` meets its contract. Each return is one law: no line 0, no such line, no such field of the line, and the field.
use Rattle.text.proofs.Parts.{no-line-zero, no_line, no_field, a-field}
use Rattle.text.proofs.field_place.Goals as goal

pub returns-then-line-eq0 : goal.returns-then-line-eq0
returns-then-line-eq0 c =
    let a = c.args in
    no-line-zero a.sheet.now a.line a.i c.if-line-eq0.true

pub returns-then-sheet-a : goal.returns-then-sheet-a
returns-then-sheet-a c =
    let a = c.args in
    no_line a.sheet.now a.line a.i c.if-line-eq0.false c.skip-a.ensures c.if-sheet-a.true

pub returns-then-t-x : goal.returns-then-t-x
returns-then-t-x c =
    let a = c.args in
    no_field a.sheet.now a.line a.i c.if-line-eq0.false c.skip-a.ensures c.if-sheet-a.false c.find-e.ensures.0 c.skip-x.ensures c.if-t-x.true

pub returns : goal.returns
returns c =
    let a = c.args in
    a-field a.sheet.now a.line a.i c.if-line-eq0.false c.skip-a.ensures c.if-sheet-a.false c.find-e.ensures.0 c.skip-x.ensures c.find-e.ensures.2 c.if-t-x.false c.find-y.ensures.0 c.find-y.ensures.2

-- `replay::rows::note_size` meets its contract.
use Rattle.std.proofs.Common.{rules}
use Rattle.replay.proofs.Loops.{noted_other, noted-far, noted-at}
use mathlib.Core.Path.{◌∙◌, sym}
use Rattle.replay.proofs.rows.note_size.Goals as goal

pub returns-then-id-lt-TYPES : goal.returns-then-id-lt-TYPES
returns-then-id-lt-TYPES c =
    let a = c.args in
    let f = c.field in
    let same = c.same in
    let if1 = c.if-same in
    let field2 = c.field-then-same in
    let number = c.number-id in
    let if2 = c.if-id-lt-TYPES in
    noted-at a.row.now a.work.now f.ensures (sym same.ensures ∙ if1.true) number.ensures.0 field2.ensures if2.true (search rules) c.small.ensures c.number.ensures.0 c.field-then-id-lt-TYPES.ensures

pub returns-else-id-lt-TYPES : goal.returns-else-id-lt-TYPES
returns-else-id-lt-TYPES c =
    let a = c.args in
    let f = c.field in
    let same = c.same in
    let if1 = c.if-same in
    noted-far a.row.now a.work.now f.ensures (sym same.ensures ∙ if1.true) c.number-id.ensures.0 c.field-then-same.ensures c.if-id-lt-TYPES.false

pub returns-else-same : goal.returns-else-same
returns-else-same c =
    let a = c.args in
    let f = c.field in
    noted_other a.row.now a.work.now f.ensures (sym c.same.ensures ∙ c.if-same.false)

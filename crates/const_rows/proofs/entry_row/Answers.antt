-- `const_rows::entry_row` meets its contract.
use Rattle.std.proofs.Common.{arith, sym, ap, ◌∙◌}
use Rattle.implement.specs.Modules.{line_number}
use Rattle.write.proofs.Writes.{writes_as, writes_none}
use Rattle.const_rows.proofs.Laws as Laws
use Rattle.const_rows.proofs.entry_row.Goals as goal

pub new_row-requires : goal.new_row-requires
new_row-requires c =
    let a = c.args in
    (c.requires.0, c.requires.1, Laws.plain-answers a.sheet.now a.work.now a.consts a.i c.line_of.ensures c.field_at-name.ensures.0 c.module_line_of-module.ensures c.is_own.ensures c.if-is_own.true)

pub returns-then-is_own : goal.returns-then-is_own
returns-then-is_own c =
    let a = c.args in
    rw c.if-plain.true (writes_as (Laws.plain-new a.sheet.now a.work.now a.consts a.i c.line_of.ensures c.field_at-name.ensures.0 c.module_line_of-module.ensures c.is_own.ensures c.if-is_own.true) c.new_row.ensures)

pub returns-else-is_own : goal.returns-else-is_own
returns-else-is_own c =
    let a = c.args in
    rw c.if-plain.true (writes_as (Laws.not_own a.sheet.now a.work.now a.consts a.i c.line_of.ensures c.field_at-name.ensures.0 c.module_line_of-module.ensures c.is_own.ensures c.if-is_own.false) (writes_none _ a.w.now.room))

pub new_row-requires-in-Some : goal.new_row-requires-in-Some
new_row-requires-in-Some c =
    let a = c.args in
    let k = ap line_number (sym c.in-Some.is) ∙ c.module_line_of-module.ensures in
    (c.requires.0, c.requires.1, Laws.qualified-answers a.sheet.now a.work.now a.consts a.i c.line_of.ensures c.field_at-name.ensures.0 k (λ z. omega arith) (Laws.name-of a.sheet.now c.in-Some.k c.field_at.ensures.0))

pub returns-in-Some : goal.returns-in-Some
returns-in-Some c =
    let a = c.args in
    let k = ap line_number (sym c.in-Some.is) ∙ c.module_line_of-module.ensures in
    rw c.if-plain.false (writes_as (Laws.qualified-new a.sheet.now a.work.now a.consts a.i c.line_of.ensures c.field_at-name.ensures.0 k (λ z. omega arith) (Laws.name-of a.sheet.now c.in-Some.k c.field_at.ensures.0)) c.new_row-in-Some.ensures)

pub returns-in_default : goal.returns-in_default
returns-in_default c =
    let a = c.args in
    rw c.if-plain.false (writes_as (Laws.no-module a.sheet.now a.work.now a.consts a.i c.line_of.ensures c.field_at-name.ensures.0 c.module_line_of-module.ensures (ap line_number c.in_default.is)) (writes_none _ a.w.now.room))

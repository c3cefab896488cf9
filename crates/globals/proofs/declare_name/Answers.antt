use Rattle.std.proofs.Common.{rules}
-- `globals::declare_name` meets its contract.
use Rattle.globals.specs.Collect.{allocation_in}
use Rattle.global_table.specs.Table.{offset_of, name_on, type_on}
use Rattle.globals.proofs.Declare.{laid_same, nil-test, lay-nil, lay-again, none_of, laid-entered}
use mathlib.Core.Path.{refl, sym, ◌∙◌}
use native.Mathlib.Omega.{arith}
use Rattle.globals.proofs.declare_name.Goals as goal

pub returns-then-is_nil : goal.returns-then-is_nil
returns-then-is_nil c =
    let a = c.args in
    let e = nil-test c.name_at-name.ensures c.is_nil.ensures in
    laid_same c.requires.0 (lay-nil (type_on a.sheet.now a.r) (name_on a.sheet.now a.r a.j) (allocation_in a.sheet.now a.work.now a.g) (e ∙ c.if-is_nil.true)) (omega arith)

pub returns-then-is_some : goal.returns-then-is_some
returns-then-is_some c =
    let a = c.args in
    let e = nil-test c.name_at-name.ensures c.is_nil.ensures in
    laid_same c.requires.0
    (lay-again (type_on a.sheet.now a.r) (name_on a.sheet.now a.r a.j) (allocation_in a.sheet.now a.work.now a.g) (offset_of a.work.now) _ (e ∙ c.if-is_nil.false) (rw (← c.name_at-name.ensures) c.entry_number.ensures.0) (sym c.is_some.ensures ∙ c.if-is_some.true))
    (omega arith)

pub returns : goal.returns
returns c =
    let a = c.args in
    let p = c.requires in
    let e = nil-test c.name_at-name.ensures c.is_nil.ensures in
    laid-entered a.sheet.now a.work.now a.r a.j a.g p.0 p.1 p.2 p.3 (search rules) _ c.type_of-ty.ensures.1 _ c.global_size-size.ensures.0 _ c.align_up-offset.ensures.0 _ (c.digest.ensures.0 ∙ rw c.name_at-name.ensures) c.digest.ensures.1
    _ (e ∙ c.if-is_nil.false) (rw (← c.name_at-name.ensures) c.entry_number.ensures.0) (rw (← c.name_at-name.ensures) c.entry_number.ensures.2) (none_of (sym c.is_some.ensures ∙ c.if-is_some.false)) _ refl refl c.enter.ensures

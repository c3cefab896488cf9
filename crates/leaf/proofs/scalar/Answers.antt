-- `leaf::scalar` meets its contract.
use Rattle.values.proofs.Values.{casts-as}
use native.Mathlib.Omega.{arith}
use Rattle.leaf.proofs.Leaves.{int-field, real-field, text-field, scalar-casts, scalar-int, scalar_real, scalar-text, text-form}
use Rattle.leaf.specs.Folds.{scalar_of}
use Rattle.lines.specs.Lines.{form_at}
use Prim.Native.Nat.{◌-◌}
use mathlib.Core.Path.{sym, ap, ◌∙◌}
use Rattle.leaf.proofs.scalar.Goals as goal

pub integer-requires : goal.integer-requires
integer-requires c = int-field c.requires.line c.field_at-x.ensures.0 (sym c.form_at.ensures.0 ∙ c.in-8.is)

pub returns-in-8 : goal.returns-in-8
returns-in-8 c = scalar-casts c.args.work.now c.args.top (scalar-int c.field_at-x.result.now (sym c.form_at.ensures.0 ∙ c.in-8.is) ∙ ap (scalar_of (form_at c.args.sheet.now (c.args.r - 1))) c.field_at-x.ensures.0) c.integer.ensures

pub real-requires : goal.real-requires
real-requires c = real-field c.requires.line c.field_at-x.ensures.0 (sym c.form_at.ensures.0 ∙ c.in-9.is)

pub returns-in-9 : goal.returns-in-9
returns-in-9 c = scalar-casts c.args.work.now c.args.top (scalar_real c.field_at-x.result.now (sym c.form_at.ensures.0 ∙ c.in-9.is) ∙ ap (scalar_of (form_at c.args.sheet.now (c.args.r - 1))) c.field_at-x.ensures.0) c.real.ensures

pub string-requires : goal.string-requires
string-requires c =
    let e = text-form c.requires c.form_at.ensures.0 (omega arith) (omega arith) in
    let w = text-field c.requires.line c.field_at-x.ensures.0 e in
    (w.0, w.1, c.requires.room)

pub returns-in_default : goal.returns-in_default
returns-in_default c =
    let e = text-form c.requires c.form_at.ensures.0 (omega arith) (omega arith) in
    casts-as (scalar-text c.field_at-x.result.now e ∙ ap (scalar_of (form_at c.args.sheet.now (c.args.r - 1))) c.field_at-x.ensures.0) c.string.ensures

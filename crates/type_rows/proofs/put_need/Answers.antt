use native.Mathlib.Omega.{arith}
use mathlib.Core.Path.{sym}
use Rattle.records.specs.Log.{log_of}
use Rattle.type_rows.proofs.Needs.{block-shape, opaque-shape, elem-shape}
use Rattle.type_row.proofs.Maps.{types-as}
use Rattle.type_rows.proofs.put_need.Goals as goal

pub returns-in-Some : goal.returns-in-Some
returns-in-Some c = types-as (elem-shape c.args.sheet.now c.args.i c.requires.1 c.form_at-f.result c.form_at-f.ensures.0 (log_of c.args.sheet.now) c.in-Some.kind (sym c.in-Some.ensures)) c.put_elem.ensures

pub returns-in-40 : goal.returns-in-40
returns-in-40 c = types-as (block-shape c.args.sheet.now c.args.i c.requires.1 c.form_at-f.result c.form_at-f.ensures.0 (log_of c.args.sheet.now) c.in-40.is) c.put_line.ensures

pub returns-in_default-f : goal.returns-in_default-f
returns-in_default-f c = types-as (opaque-shape c.args.sheet.now c.args.i c.requires.1 c.form_at-f.result c.form_at-f.ensures.0 (log_of c.args.sheet.now) (sym c.in_default.ensures) (λ q. omega arith) (λ q. omega arith)) c.put_opaque.ensures

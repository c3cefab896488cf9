-- `row_fields::field` meets its contract. A start past the row is the start of no field.
use Rattle.std.proofs.Common.{arith}
use Rattle.row_fields.proofs.Parts.{a-field, no_field}
use lib.Seq.{drop-length, take-nil}
use Rattle.row_fields.proofs.field.Goals as goal

pub returns-then-row-a : goal.returns-then-row-a
returns-then-row-a c = simp (drop-length, take-nil) (no_field c.args.row.now c.args.i c.skip-a.result c.skip-a.ensures c.if-row-a.true)

pub returns : goal.returns
returns c = a-field c.args.row.now c.args.i c.skip-a.result c.find-e.result c.skip-a.ensures (omega arith) c.find-e.ensures.0

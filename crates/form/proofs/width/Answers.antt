-- `form::width` meets its contract.
use native.Mathlib.Omega.{arith}
use Rattle.semantics.specs.Form.{forms}
use Rattle.form.proofs.Table.{column, width-cell, keywords-short}
use Rattle.form.proofs.width.Goals as goal

pub overflow_sub-result : goal.overflow_sub-result
unfolding forms column
overflow_sub-result c = omega (arith, width-cell c.args.f c.requires, keywords-short c.args.f c.requires)

pub overflow_cast-result : goal.overflow_cast-result
unfolding forms column
overflow_cast-result c = record { fits = omega (arith, width-cell c.args.f c.requires, keywords-short c.args.f c.requires) }

pub returns : goal.returns
unfolding forms column
returns c = (omega (arith, width-cell c.args.f c.requires), omega (arith, width-cell c.args.f c.requires, keywords-short c.args.f c.requires))

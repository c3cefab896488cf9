-- `leaf::leaf` meets its contract.
use native.Mathlib.Omega.{arith}
use Rattle.leaf.proofs.Leaves.{room-here, scalar-folds, scalar-form}
use Rattle.leaf.proofs.leaf.Goals as goal

pub scalar-requires : goal.scalar-requires
scalar-requires c = record { line = c.requires.fold.line; form = scalar-form c.requires c.form_at.ensures.0 (omega arith) (omega arith); room = room-here c.requires.fold }

pub returns-in-12 : goal.returns-in-12
returns-in-12 c = c.qualified.ensures c.args.iota

pub returns-in_default : goal.returns-in_default
returns-in_default c = scalar-folds c.requires.fold (scalar-form c.requires c.form_at.ensures.0 (omega arith) (omega arith)) c.scalar.ensures

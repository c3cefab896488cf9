-- `reals::to_i32` meets its contract: saturating the whole number of `to_i64` gives that of the smaller range (`narrowed`).
use Rattle.reals.proofs.Whole.{narrow-above, narrow_below, narrow-inside}
use Rattle.reals.proofs.to_i32.Goals as goal

pub returns-then-n-gt2147483647 : goal.returns-then-n-gt2147483647
returns-then-n-gt2147483647 c = narrow-above c.args.x (record { sfits = c.to_i64-n.type_inv }) c.to_i64-n.ensures c.if-n-gt2147483647.true

pub returns-then-n-ltminus2147483648 : goal.returns-then-n-ltminus2147483648
returns-then-n-ltminus2147483648 c = narrow_below c.args.x (record { sfits = c.to_i64-n.type_inv }) c.to_i64-n.ensures c.if-n-ltminus2147483648.true

pub overflow_cast-result : goal.overflow_cast-result
overflow_cast-result c = (narrow-inside c.args.x (record { sfits = c.to_i64-n.type_inv }) c.to_i64-n.ensures c.if-n-gt2147483647.false c.if-n-ltminus2147483648.false).0

pub returns : goal.returns
returns c = (narrow-inside c.args.x (record { sfits = c.to_i64-n.type_inv }) c.to_i64-n.ensures c.if-n-gt2147483647.false c.if-n-ltminus2147483648.false).1

-- `reals::from_i64` meets its contract: a negative integer's real is that of its magnitude, negated.
use Rattle.std.proofs.Common.{w64}
use Rattle.ints.proofs.Widths.{plain, turned-over}
use Rattle.reals.proofs.Leading.{real-of-positive, magnitude-fits, real-of-negative}
use Rattle.reals.proofs.from_i64.Goals as goal

pub overflow_cast-n : goal.overflow_cast-n
overflow_cast-n c = (plain w64 c.ranges.n c.if-n-ge0.true).0

pub overflow_cast-n-else-n-ge0 : goal.overflow_cast-n-else-n-ge0
overflow_cast-n-else-n-ge0 c = (turned-over w64 c.ranges.n c.if-n-ge0.false).0

pub overflow_add-n : goal.overflow_add-n
overflow_add-n c = magnitude-fits c.ranges.n c.if-n-ge0.false

pub returns-then-n-ge0 : goal.returns-then-n-ge0
returns-then-n-ge0 c = real-of-positive c.ranges.n c.if-n-ge0.true c.from_u64.ensures

pub returns-else-n-ge0 : goal.returns-else-n-ge0
returns-else-n-ge0 c = real-of-negative c.ranges.n c.if-n-ge0.false c.from_u64-else-n-ge0.ensures

-- `reals::from_u64` meets its contract: the pattern is that of n rounded (`real-of-pattern`); a leading zero count below 64 keeps each step in range.
use Rattle.std.proofs.Common.{arith}
use Rattle.reals.proofs.Leading.{real-of-zero, zeros-lt, rounded-le, finite, real-of-pattern}
use Rattle.reals.proofs.from_u64.Goals as goal

pub returns-then-n-eq0 : goal.returns-then-n-eq0
returns-then-n-eq0 c = real-of-zero c.args.n c.if-n-eq0.true

pub overflow_cast-z : goal.overflow_cast-z
overflow_cast-z c = omega (arith, zeros-lt c.args.n c.ranges.n.fits c.if-n-eq0.false)

pub overflow_shl-n : goal.overflow_shl-n
overflow_shl-n c = zeros-lt c.args.n c.ranges.n.fits c.if-n-eq0.false

pub overflow_sub-result : goal.overflow_sub-result
overflow_sub-result c = omega (arith, zeros-lt c.args.n c.ranges.n.fits c.if-n-eq0.false)

pub overflow_add-result : goal.overflow_add-result
overflow_add-result c = omega (arith, rounded-le c.args.n c.ranges.n.fits c.if-n-eq0.false c.rounded-q.ensures)

pub float_from_bits-result : goal.float_from_bits-result
float_from_bits-result c = finite (omega (arith, rounded-le c.args.n c.ranges.n.fits c.if-n-eq0.false c.rounded-q.ensures))

pub returns : goal.returns
returns c = real-of-pattern c.args.n c.ranges.n.fits c.if-n-eq0.false c.rounded-q.ensures

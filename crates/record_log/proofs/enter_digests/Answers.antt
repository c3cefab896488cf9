use Rattle.std.proofs.Common.{rules}
use native.Mathlib.Omega.{arith}
use Rattle.record_log.proofs.Digests.{digests-next}
use Rattle.record_log.proofs.enter_digests.Goals as goal

pub loop-i-preserved : goal.loop-i-preserved
loop-i-preserved c = (omega (arith, c.loop-i-test.true), digests-next (search rules) c.loop-i.invariant.1 c.loop-i-test.true c.digest_for-d.ensures.0 c.enter_digest.ensures)

-- `words::digest_on` meets its contract.
use Rattle.std.proofs.Common.{◌≡◌, ◌<◌, drop}
use Rattle.words.specs.Words.{digest_from}
use Rattle.words.proofs.digest_on.Given as goal

abbrev pub invariant-loop-b : goal.invariant-loop-b
invariant-loop-b l = (l.h < 256) × (digest_from l.before l.s ≡ digest_from l.h (drop l.b-index l.s))

use Rattle.placements.proofs.Steps.{next-placed}
use Rattle.placements.proofs.place_next.Goals as goal

pub returns-then-x-lt-BEYOND : goal.returns-then-x-lt-BEYOND
returns-then-x-lt-BEYOND c = next-placed c.args.work.now c.args.e c.args.x _ _ c.if-x-lt-BEYOND.true c.place_span.ensures.2 c.place_span.ensures.0 c.place_span.ensures.1

use Rattle.std.proofs.Common.{rules}
use Rattle.placements.proofs.Steps.{indices-placed}
use Rattle.placements.proofs.place_indices.Goals as goal

pub returns : goal.returns
returns c = indices-placed c.args.work.now c.args.e c.args.x c.ranges.low c.ranges.high c.if-high-low.false (search rules) _ _ c.place_span.ensures.2 c.place_span.ensures.0 c.place_span.ensures.1

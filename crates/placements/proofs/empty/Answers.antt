use Rattle.std.proofs.Common.{rules}
use Rattle.placements.proofs.Steps.{started}
use Rattle.placements.proofs.empty.Goals as goal

pub returns : goal.returns
returns c = started c.args.work.now _ _ (search rules) c.set_span.ensures c.put_value.ensures

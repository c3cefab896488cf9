use Rattle.records.proofs.Picks.{tags-count}
use Rattle.records.proofs.line.tag_count.Goals as goal

pub returns : goal.returns
returns c = tags-count c.args.sheet.now c.args.v c.requires c.number_at.result c.number_at.ensures.0

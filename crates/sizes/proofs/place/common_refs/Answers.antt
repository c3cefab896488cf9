use mathlib.Core.Path.{sym}
use Rattle.sizes.proofs.Places.{common-refs, common-is}
use Rattle.sizes.proofs.place.common_refs.Goals as goal

pub returns : goal.returns
returns c = (common-refs c.args.sheet.now c.args.r c.requires c.number_at-count.result c.number_at-count.ensures.0, sym (common-is c.args.sheet.now c.args.r c.requires c.number_at-count.result c.number_at-count.ensures.0))

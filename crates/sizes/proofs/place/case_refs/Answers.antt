use mathlib.Core.Path.{sym}
use Rattle.sizes.proofs.Places.{case-refs, case-is}
use Rattle.sizes.proofs.place.case_refs.Goals as goal

pub returns : goal.returns
returns c = (case-refs c.args.sheet.now c.args.r c.requires c.number_at-at.result c.number_at-at.ensures.0 c.number_at-count.result c.number_at-count.ensures.0, sym (case-is c.args.sheet.now c.args.r c.requires c.number_at-at.result c.number_at-at.ensures.0 c.number_at-count.result c.number_at-count.ensures.0))

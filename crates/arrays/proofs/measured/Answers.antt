use Rattle.arrays.proofs.Wholes.{measured-well}
use Rattle.arrays.proofs.measured.Goals as goal

pub returns : goal.returns
returns c = λ k next reach f h p. measured-well c.args.sheet.now c.args.work.now c.args.declared c.args.r c.args.size k next reach f h p c.if-size-gt-LONGEST_LITERAL.false c.literal_kind.ensures

use Rattle.type_row.proofs.Maps.{below-zero}
use Rattle.type_row.proofs.mark_raised.Goals as goal

pub returns-then-z-lt-RAISE : goal.returns-then-z-lt-RAISE
returns-then-z-lt-RAISE c = λ y h e. below-zero c.args.z y h e c.if-z-lt-RAISE.true

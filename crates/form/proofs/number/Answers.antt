-- `form::number` meets its contract.
use Rattle.form.proofs.Fields.{number_told}
use Rattle.form.proofs.number.Goals as goal

pub returns-in-Some : goal.returns-in-Some
returns-in-Some c = number_told c.args.s.now c.in-Some.ensures

pub returns-in-None : goal.returns-in-None
returns-in-None c = number_told c.args.s.now c.in-None.ensures

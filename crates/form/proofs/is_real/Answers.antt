-- `form::is_real` meets its contract.
use Rattle.form.proofs.Fields.{is_real_bits}
use Rattle.form.proofs.is_real.Goals as goal

pub returns-in-Some : goal.returns-in-Some
returns-in-Some c = is_real_bits c.args.s.now c.in-Some.ensures

pub returns-in-None : goal.returns-in-None
returns-in-None c = is_real_bits c.args.s.now c.in-None.ensures

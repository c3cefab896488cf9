use Rattle.lines.proofs.Line.{form-here}
use Rattle.lines.proofs.Sheet.form_at.Goals as goal

pub returns : goal.returns
returns c = rw (← c.self.view_is) (form-here c.self.invariant c.args.i (rw c.self.view_is c.requires) c.form_of.ensures)

-- `form::field_letter` meets its contract.
use Rattle.form.proofs.Table.{letters, letter-cell}
use Rattle.semantics.specs.Form.{forms}
use Rattle.form.proofs.field_letter.Goals as goal

pub returns : goal.returns
unfolding forms letters
returns c = letter-cell c.args.f c.requires.0 c.args.j c.requires.1

-- `form::kind` meets its contract.
use Rattle.form.proofs.Table.{column, kind-cell}
use Rattle.semantics.specs.Form.{forms}
use Rattle.form.proofs.kind.Goals as goal

pub returns : goal.returns
unfolding forms column
returns c = kind-cell c.args.f c.requires

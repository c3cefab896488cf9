-- `form::keyword_byte` meets its contract.
use Prim.Native.Nat.{ℕ, ◌+◌, ◌*◌}
use mathlib.Core.Path.{ap, ◌∙◌}
use mathlib.Core.List.{List}
use lib.ListN.{get_or}
use Rattle.form.proofs.Table.{keyword-cell}
use Rattle.form.proofs.keyword_byte.Goals as goal

pub returns : goal.returns
returns c =
    ap (λ (xs : List ℕ). get_or xs (24 * c.args.f + 1 + c.args.i) 0) c.requires.0
    ∙ keyword-cell c.args.f c.requires.1 c.args.i c.requires.2

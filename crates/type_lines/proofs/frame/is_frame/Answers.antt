use Prim.Native.Nat.{ℕ}
use lib.Dec.{eqb}
use mathlib.Core.Path.{◌∙◌, sym, ap}
use Rattle.form.specs.Table.{kind_at}
use Rattle.lines.proofs.Line.{kind-is}
use Rattle.type_lines.proofs.frame.is_frame.Goals as goal

pub returns : goal.returns
returns c = ap (λ (k : ℕ). eqb k 71) (c.kind.ensures ∙ ap kind_at c.form_at.ensures.0 ∙ sym (kind-is c.args.sheet.now c.requires.0.whole c.args.i c.requires.1))

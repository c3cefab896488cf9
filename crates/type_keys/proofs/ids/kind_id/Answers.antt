use mathlib.Core.Path.{◌∙◌, sym, ap}
use Rattle.chains.specs.Chains.{count_to}
use Rattle.codes.specs.Kinds.{element_kind}
use Rattle.semantics.specs.Tree.TypeKey.{elem_key}
use Rattle.type_keys.proofs.Positions.{kind-position-stays}
use Rattle.type_keys.proofs.ids.kind_id.Goals as goal

pub returns : goal.returns
returns c = (λ s is ks ms count x e g. c.id_of.ensures.0 s is (elem_key (element_kind c.args.kind)) e (rw g (kind-position-stays c.args.work.now ks ms count (element_kind c.args.kind) x c.unwrap.result (sym (ap count_to c.unwrap.ensures) ∙ c.kind_position.ensures.value))), c.id_of.ensures.1)

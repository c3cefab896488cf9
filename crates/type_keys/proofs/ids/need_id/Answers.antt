use mathlib.Core.Path.{◌∙◌}
use Rattle.semantics.specs.Types.{array_key}
use Rattle.semantics.specs.Sheet.{sheet_source, concat_map}
use Rattle.type_keys.proofs.Positions.{need-position-stays, keys-are}
use Rattle.type_keys.proofs.ids.need_id.Goals as goal

pub returns : goal.returns
returns c = (λ s is x h e. c.id_of.ensures.0 (sheet_source s) is _ e (c.need_position.ensures.0 ∙ rw (keys-are s is) (need-position-stays s c.args.work.now (sheet_source s).needs x (concat_map array_key is) c.args.q h)), c.id_of.ensures.1)

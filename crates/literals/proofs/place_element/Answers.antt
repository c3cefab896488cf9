-- `literals::place_element` meets its contract.
use Rattle.std.proofs.Common.{rules}
use Rattle.literals.proofs.Elements.{element-next, element-star, element-at, element-spans}
use Rattle.literals.proofs.place_element.Goals as goal

pub returns-in-20 : goal.returns-in-20
returns-in-20 c = element-next c.requires c.args.x c.form_at.ensures.0 c.in-20.is c.place_next.ensures

pub returns-in-21 : goal.returns-in-21
returns-in-21 c = element-star c.requires c.args.x c.form_at.ensures.0 (search rules) c.in-21.is c.put_value.ensures

pub place_selectors-requires : goal.place_selectors-requires
place_selectors-requires c = element-at c.requires c.args.x c.form_at.ensures.0 (search rules) (search rules)

pub returns-in_default : goal.returns-in_default
returns-in_default c = element-spans c.requires c.args.x c.form_at.ensures.0 (search rules) (search rules) c.place_selectors.ensures

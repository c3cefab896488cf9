-- `arrays::elem_kind` meets its contract.
use Rattle.std.proofs.Common.{rules}
use Rattle.arrays.proofs.Elements.{kind_at, kind-pointer}
use Rattle.arrays.proofs.elem_kind.Goals as goal

pub returns-in-0 : goal.returns-in-0
returns-in-0 c = kind_at c.requires c.form_at.ensures.0 c.in-0.is

pub returns-in-1 : goal.returns-in-1
returns-in-1 c = kind_at c.requires c.form_at.ensures.0 c.in-1.is

pub returns-in-2 : goal.returns-in-2
returns-in-2 c = kind_at c.requires c.form_at.ensures.0 c.in-2.is

pub returns-in-3 : goal.returns-in-3
returns-in-3 c = kind_at c.requires c.form_at.ensures.0 c.in-3.is

pub returns-in_default : goal.returns-in_default
returns-in_default c = kind-pointer c.requires c.form_at.ensures.0 (search rules) (search rules) (search rules) (search rules)

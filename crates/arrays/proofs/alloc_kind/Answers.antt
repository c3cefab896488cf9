-- `arrays::alloc_kind` meets its contract.
use Rattle.arrays.proofs.Allocs.{own_line, own-kind}
use Rattle.arrays.proofs.alloc_kind.Goals as goal

pub elem_kind-requires-in-None : goal.elem_kind-requires-in-None
elem_kind-requires-in-None c = own_line c.requires c.number_at.ensures.0

pub returns-in-None : goal.returns-in-None
returns-in-None c = own-kind c.requires c.number_at.ensures.0 c.in-None.is c.elem_kind-in-None.ensures

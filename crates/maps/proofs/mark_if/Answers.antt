-- `maps::mark_if` meets its contract.
use Rattle.maps.proofs.Maps.{marks-none}
use Rattle.maps.proofs.mark_if.Goals as goal

pub returns-then-pointer : goal.returns-then-pointer
returns-then-pointer c = rw c.if-pointer.true c.mark_at.ensures

pub returns-else-pointer : goal.returns-else-pointer
returns-else-pointer c = rw c.if-pointer.false marks-none

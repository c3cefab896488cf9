-- `map::put` meets its contract: past its end a list has no place to set.
-- Assumes nothing.
use mathlib.Core.Path.{sym}
use lib.Seq.{set_out}
use Rattle.layout.proofs.map.put.Goals as goal

pub returns-else-at-d : goal.returns-else-at-d
returns-else-at-d c = sym (set_out _ _ _ c.if-at-d.false)

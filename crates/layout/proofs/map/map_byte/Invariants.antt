-- `map::map_byte` meets its contract. The invariant: `byte` has the bits of the first k words.
-- Assumes nothing.
use mathlib.Core.Path.{◌≡◌}
use Rattle.semantics.specs.Layout.{map_bits}
use Rattle.layout.proofs.map.map_byte.Given as goal

abbrev pub invariant-loop-k : goal.invariant-loop-k
invariant-loop-k l = l.byte ≡ map_bits l.size l.offsets l.k l.w

-- `map::pointer_map_for` meets its contract. The invariant is what the pass holds after n finished bytes, with a bound on the count, so that it
-- fits.
use Prim.Native.Nat.{◌*◌, ◌≤◌}
use Rattle.layout.specs.Pass.{MapPass}
use Rattle.layout.proofs.map.pointer_map_for.Given as goal

abbrev pub invariant-loop-n : goal.invariant-loop-n
invariant-loop-n l = (l.count ≤ 8 * l.n) × MapPass l.size l.offsets l.initial.map l.n l.map l.count

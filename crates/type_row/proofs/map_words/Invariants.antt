use Rattle.maps.specs.Maps.{Marks}
use Prim.Native.Nat.{◌≤◌}
use Rattle.type_row.specs.Row.{word_offsets}
use Rattle.type_row.proofs.map_words.Given as goal

abbrev pub invariant-loop-k : goal.invariant-loop-k
invariant-loop-k l = (l.k ≤ l.count) × Marks l.size (word_offsets l.k) l.initial.work l.work

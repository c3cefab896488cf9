-- `map::word_marked` meets its contract. The invariant: the word is marked by one of all offsets where it is by one that is left.
use mathlib.Core.Path.{◌≡◌}
use lib.ListN.{drop}
use Rattle.semantics.specs.Layout.{marked}
use Rattle.layout.proofs.map.word_marked.Given as goal

abbrev pub invariant-loop-off : goal.invariant-loop-off
invariant-loop-off l = marked l.size l.offsets l.w ≡ marked l.size (drop l.off-index l.offsets) l.w

-- `leaf::string` meets its contract.
use Rattle.write.specs.Writes.{Writes}
use Rattle.semantics.specs.Text.{or_else, unhex}
use lib.ListN.{take}
use mathlib.Core.List.{[]}
use Rattle.leaf.proofs.string.Given as goal

abbrev pub invariant-loop-i : goal.invariant-loop-i
invariant-loop-i l = Writes l.initial.w (take l.i (or_else [] (unhex l.x))) l.w

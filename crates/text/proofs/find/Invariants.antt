-- `text::find` meets its contract. No b stands before i: what is left to look at holds the answer.
use Prim.Native.Nat.{◌+◌}
use mathlib.Core.Path.{◌≡◌}
use lib.ListN.{length, drop}
use Rattle.text.specs.Parts.{until}
use Rattle.text.proofs.find.Given as goal

abbrev pub invariant-loop-i : goal.invariant-loop-i
invariant-loop-i l = l.at + length (until l.b (drop l.at l.s)) ≡ l.i + length (until l.b (drop l.i l.s))

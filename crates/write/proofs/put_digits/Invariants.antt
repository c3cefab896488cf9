use Rattle.std.proofs.Common.{take}
use Rattle.semantics.specs.Text.{hex_of}
use Rattle.write.specs.Wrote.{Wrote}
use Rattle.write.proofs.put_digits.Given as goal

abbrev pub invariant-loop-b : goal.invariant-loop-b
invariant-loop-b l = Wrote l.initial.out l.at (hex_of (take l.b-index l.part)) l.out l.p

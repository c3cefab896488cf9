-- `decimal::digits` meets its contract. The digits that are left, behind the number read so far, write what all of them write.
use Rattle.std.proofs.Common.{◌≡◌, ◌≤◌, drop}
use Rattle.semantics.specs.Text.{digits_value}
use Rattle.decimal.specs.Number.{most, up_to}
use Rattle.decimal.proofs.digits.Given as goal

abbrev pub invariant-loop-b : goal.invariant-loop-b
invariant-loop-b l = (l.n ≤ most) × (up_to most (digits_value 0 l.s) ≡ up_to most (digits_value l.n (drop l.b-index l.s)))

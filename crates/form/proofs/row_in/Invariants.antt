-- `form::row_in` meets its contract.
use Rattle.std.proofs.Common.{◌≡◌, ◌+◌, drop}
use Rattle.semantics.specs.Form.{forms, row_of}
use Rattle.form.proofs.row_in.Given as goal

abbrev pub invariant-loop-f : goal.invariant-loop-f
invariant-loop-f l = row_of forms l.l ≡ l.f + row_of (drop l.f forms) l.l

-- `form::begin` meets its contract.
use Prim.Native.Nat.{ℕ, ◌+◌}
use mathlib.Core.Path.{ap}
use Rattle.form.proofs.begin.Goals as goal

pub returns : goal.returns
returns c = ap (λ (k : ℕ). record { at = k + 1; next = 0; left = 0; letter = 32 }) c.width.ensures.0

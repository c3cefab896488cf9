-- `names::const_digest` meets its contract.
use Prim.Native.Nat.{suc, ◌-◌}
use mathlib.Core.Path.{◌≡◌, ◌∙◌, ap}
use native.Mathlib.Omega.{arith}
use Rattle.semantics.specs.Text.{Bytes}
use Rattle.names.specs.Table.{const_digest, qualified_digest}
use Rattle.names.proofs.const_digest.Goals as goal

pub returns-in-None : goal.returns-in-None
unfolding const_digest
returns-in-None c = (rw c.in-None.is c.digest.ensures.0, c.digest.ensures.1)

pub returns-in-Some : goal.returns-in-Some
unfolding const_digest
returns-in-Some c =
    let z : suc c.in-Some.i - 1 ≡ c.in-Some.i = omega arith in
    (rw (c.in-Some.is, z) (c.qualified_digest.ensures.0 ∙ ap (λ (x : Bytes). qualified_digest c.args.sheet.now x c.args.name.now) c.field_at.ensures.0), c.qualified_digest.ensures.1)

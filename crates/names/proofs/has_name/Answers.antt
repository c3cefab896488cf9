-- `names::has_name` meets its contract.
use native.Mathlib.Omega.{arith}
use Rattle.names.proofs.Laws.{const-room}
use Rattle.names.proofs.has_name.Goals as goal

pub digest_at-requires : goal.digest_at-requires
digest_at-requires c = let p = c.requires in (const-room p.1, omega (arith, p.0.low))

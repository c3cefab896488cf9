use Rattle.std.proofs.Common.{ℕ, ◌≡◌, ◌+◌, ◌<◌}
use Rattle.type_keys.specs.Table.{kind_position}
use Rattle.type_keys.proofs.Table.{kind_in}
use Rattle.type_rows.proofs.kinds.kind_at.Given as goal

abbrev pub invariant-loop-kind : goal.invariant-loop-kind
invariant-loop-kind l = (j : ℕ) → j < l.kind-index → kind_position l.work (kind_in j) ≡ l.p + 1 → ⊥

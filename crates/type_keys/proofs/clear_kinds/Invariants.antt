use mathlib.Core.Path.{◌≡◌}
use Prim.Native.Nat.{ℕ, ◌<◌}
use Rattle.checks.specs.Checks.{Outside}
use Rattle.type_keys.specs.Table.{kind_position}
use Rattle.type_keys.proofs.Table.{kind_in}
use Rattle.type_keys.proofs.clear_kinds.Given as goal

abbrev pub invariant-loop-kind : goal.invariant-loop-kind
invariant-loop-kind l = (Outside 10624 10629 l.initial.work l.work) × ((j : ℕ) → j < l.kind-index → kind_position l.work (kind_in j) ≡ 0)

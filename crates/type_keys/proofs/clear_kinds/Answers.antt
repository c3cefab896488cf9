use native.Mathlib.Omega.{arith}
use mathlib.Core.Path.{◌≡◌}
use Rattle.semantics.specs.Tree.{ElemKind}
use Rattle.checks.proofs.Kept.{outside-then, outside_set}
use Rattle.type_keys.specs.Table.{kind_position}
use Rattle.type_keys.proofs.Table.{cleared-next, each-kind}
use Rattle.type_keys.proofs.clear_kinds.Goals as goal

pub loop-kind-preserved : goal.loop-kind-preserved
loop-kind-preserved c =
    let l = c.loop-kind in
    let p = c.kind_place.ensures in (
      outside-then l.invariant.0 (outside_set 10624 10629 l.work c.kind_place.result 0 (omega (arith, p.0)) (omega (arith, p.1))),
      rw p.0 (cleared-next l.work l.kind-index (omega arith) l.invariant.1),
    )

pub returns : goal.returns
returns c = (c.loop-kind.invariant.0, each-kind (λ (k : ElemKind). kind_position c.loop-kind.work k ≡ 0) c.loop-kind.kind-index c.loop-kind-test.false c.loop-kind.invariant.1)

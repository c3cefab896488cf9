use Rattle.std.proofs.Common.{◌≡◌, arith}
use Rattle.codes.specs.Kinds.{element_kind}
use Rattle.checks.proofs.Kept.{kept-all, kept_then}
use Rattle.type_rows.proofs.Elements.{kinds-start, kinds-next, kinds-none, kinds-end}
use Rattle.type_rows.proofs.kinds.kind_rows.Goals.{in-Some, in_default}
use Rattle.type_rows.proofs.kinds.kind_rows.Goals as goal

pub loop-i-init : goal.loop-i-init
loop-i-init c = (omega arith, kept-all, kinds-start c.args.base c.args.keys _, omega arith)

pub loop-i-preserved : goal.loop-i-preserved
loop-i-preserved c =
    let i = c.loop-i.invariant in
    elim c.match-kind_at.branch [
      | in-Some w ↦
          rw (w.work-is, w.w-is) (
            omega (arith, i.0),
            kept_then i.1 w.put_elem.ensures.kept,
            kinds-next c.args.base c.args.keys _ c.loop-i.i i.0 c.loop-i-test.true c.requires.0 i.2 i.1 (element_kind w.in-Some.kind) w.in-Some.ensures.found w.put_elem.ensures,
            omega arith,
          )
      | in_default w ↦ rw (w.work-is, w.w-is) (omega (arith, i.0), i.1, kinds-none c.args.base c.args.keys _ c.loop-i.i i.0 c.loop-i-test.true c.requires.0 i.2 i.1 (c.kind_at.ensures.none w.in_default.is), omega arith)
    ]

pub returns : goal.returns
returns c =
    let i = c.loop-i.invariant in
    let q : c.loop-i.i ≡ c.max.result = omega (arith, i.0, i.3, c.loop-i-test.false, c.max.ensures) in
    rw (← q) (λ s ls is e x. kinds-end c.args.base c.args.keys _ c.loop-i.i i.0 (omega (arith, c.loop-i-test.false)) i.2 s ls is e x, i.1)

use Rattle.std.proofs.Common.{sym, arith}
use Rattle.write.proofs.Writes.{writes_none, writes_as, writes_then}
use Rattle.row_fields.proofs.Writes.{values-next, values-none}
use Rattle.row_fields.proofs.values.put_values.Goals as goal

pub loop-i-init : goal.loop-i-init
loop-i-init c = λ z x. x

pub loop-i-preserved : goal.loop-i-preserved
loop-i-preserved c =
    let a = c.args in
    let q = values-next a.width a.reals a.row.now c.loop-i.i c.find-e.result (omega arith) c.find-e.ensures.0 c.value.ensures in
    λ z x. c.loop-i.invariant z (writes_as (sym q) (writes_then c.put_big_endian.ensures x))

pub returns : goal.returns
returns c = c.loop-i.invariant _ (writes_as (sym (values-none c.args.width c.args.reals c.args.row.now c.loop-i.i (omega arith))) (writes_none _ c.loop-i.w.room))

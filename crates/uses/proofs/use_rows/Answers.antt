use Rattle.std.proofs.Common.{arith}
use Rattle.semantics.specs.Types.{id_of}
use Rattle.semantics.specs.Sheet.{sheet_source}
use Rattle.write.proofs.Writes.{writes_none}
use Rattle.uses.proofs.Uses.{uses-next, uses-end}
use Rattle.uses.proofs.use_rows.Goals as goal

pub loop-q-init : goal.loop-q-init
loop-q-init c = λ s is x. writes_none _ c.args.w.now.room

pub need_id-requires : goal.need_id-requires
need_id-requires c = (c.requires.1, omega (arith, c.loop-q-test.true, c.requires.0))

pub loop-q-preserved : goal.loop-q-preserved
loop-q-preserved c =
    λ s is x. uses-next (id_of (sheet_source s) is) (sheet_source s).needs c.loop-q.q c.need_id.result (omega (arith, c.loop-q-test.true, x.count)) (c.need_id.ensures.0 s is x.table (omega (arith, c.loop-q-test.true, x.count)) x.framed) (c.loop-q.invariant s is x) c.put_use.ensures

pub returns : goal.returns
returns c = λ s is x. uses-end (id_of (sheet_source s) is) (sheet_source s).needs c.loop-q.q (omega (arith, c.loop-q-test.false, x.count)) (c.loop-q.invariant s is x)

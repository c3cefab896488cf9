use Rattle.std.proofs.Common.{rules}
use Rattle.record_log.proofs.Log.{entries-start, entries_next, entries-end}
use Rattle.write.proofs.Wrote.{place-low}
use native.Mathlib.Omega.{arith}
use mathlib.Core.Path.{refl}
use Rattle.record_log.proofs.log_adts.Goals as goal

pub loop-i-init : goal.loop-i-init
loop-i-init c = (omega arith, entries-start c.args.sheet.now c.args.work.now (search rules))

pub record_adt-at-requires : goal.record_adt-at-requires
record_adt-at-requires c = (c.requires, omega arith, omega (arith, c.count-i-end.ensures.0, c.loop-i-test.true), place-low c.loop-i.invariant.1)

pub loop-i-preserved : goal.loop-i-preserved
loop-i-preserved c = (omega (arith, c.count-i-end.ensures.0, c.loop-i-test.true), entries_next c.args.sheet.now c.args.work.now _ _ _ _ _ c.loop-i.invariant.1 c.record_adt-at.ensures)

pub returns : goal.returns
returns c = entries-end c.args.sheet.now c.args.work.now (search rules) c.requires _ c.loop-i.invariant.0 (omega (arith, c.count-i-end.ensures.0, c.loop-i-test.false)) _ _ c.loop-i.invariant.1 _ refl

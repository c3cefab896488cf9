use native.Mathlib.Omega.{arith}
use Rattle.checks.proofs.Kept.{outside-all, outside-then, outside-less}
use Rattle.need_keys.proofs.Pass.{collecting-start, collecting-end}
use Rattle.need_keys.proofs.collect_needs.Goals as goal

pub loop-i-init : goal.loop-i-init
loop-i-init c = (collecting-start c.args.sheet.now c.clear_kinds.new.work (c.requires) c.clear_kinds.ensures.1, outside-all)

pub returns : goal.returns
returns c = let w = collecting-end c.args.sheet.now c.loop-i.work c.loop-i.i c.loop-i.counts.needs c.loop-i.counts.keys c.loop-i.invariant.0 (omega (arith, c.count-i-end.ensures.0, c.loop-i-test.false)) in (w.0, w.1, w.2, outside-then (outside-less 10240 11264 (omega arith) (omega arith) c.clear_kinds.ensures.0) c.loop-i.invariant.1)

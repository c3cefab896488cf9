use Rattle.records.proofs.Picks.{cases-count}
use Rattle.record_log.proofs.Log.{casing-start, casing-next, casing-end}
use Rattle.write.proofs.Wrote.{place-low}
use native.Mathlib.Omega.{arith}
use Rattle.record_log.proofs.put_cases.Goals as goal

pub loop-c-init : goal.loop-c-init
loop-c-init c = casing-start c.args.sheet.now c.args.r c.args.work.now c.args.at c.requires.1

pub put_tags-p-requires : goal.put_tags-p-requires
put_tags-p-requires c = (omega (arith, c.requires.0.last, c.requires.0.checked.whole.few), omega (arith, c.case_count-count.ensures.1, c.loop-c-test.true), c.tag_count-tags.ensures.1, omega (arith, c.loop-c.invariant.small, c.case_count-count.ensures.1, c.loop-c-test.true), place-low c.loop-c.invariant.wrote)

pub loop-c-preserved : goal.loop-c-preserved
loop-c-preserved c = casing-next c.args.sheet.now c.args.r c.args.work.now c.args.at _ _ _ _ c.loop-c.invariant (omega (arith, cases-count c.args.sheet.now c.args.r c.case_count-count.ensures.0, c.loop-c-test.true)) _ c.case_line-v.ensures _ c.tag_count-tags.ensures.0 c.tag_count-tags.ensures.1 _ _ c.put_tags-p.ensures

pub returns : goal.returns
returns c = casing-end c.args.sheet.now c.args.r c.args.work.now c.args.at _ _ _ _ c.loop-c.invariant (omega (arith, cases-count c.args.sheet.now c.args.r c.case_count-count.ensures.0, c.loop-c-test.false))

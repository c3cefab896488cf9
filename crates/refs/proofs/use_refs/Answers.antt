use borrow.Author.Rules.{rules}
use Rattle.refs.proofs.Laws.{using-start, using-stop, using-on, using-end}
use Rattle.refs.proofs.use_refs.Goals as goal

pub loop-w-init : goal.loop-w-init
loop-w-init c = using-start c.args.sheet.now c.args.work.now c.args.i c.line_at-l.ensures.1 (search rules) c.requires c.line_at-l.result.now c.form_at-f.result c.line_at-l.ensures.0 c.form_at-f.ensures.0 c.begin-w.result c.begin-w.ensures

pub returns-then-not-claim : goal.returns-then-not-claim
returns-then-not-claim c = using-stop c.args.sheet.now c.loop-w.work c.args.work.now c.args.i c.requires c.form_at-f.result c.line_at-l.result.now c.loop-w.w c.next-s.result.next c.next-s.result.letter c.next-s.result.number c.next-s.ensures c.loop-w.invariant c.claim.new.work c.claim.ensures.0 (c.if-not-claim.true) c.claim.ensures.1

pub loop-w-preserved : goal.loop-w-preserved
loop-w-preserved c = using-on c.args.sheet.now c.loop-w.work c.args.work.now c.args.i c.requires c.form_at-f.result c.line_at-l.result.now c.loop-w.w c.next-s.result.next c.next-s.result.letter c.next-s.result.number c.next-s.ensures c.loop-w.invariant c.claim.new.work c.claim.ensures.0 (c.if-not-claim.false) c.claim.ensures.1

pub returns : goal.returns
returns c = using-end c.args.sheet.now c.loop-w.work c.args.work.now c.args.i c.form_at-f.result c.line_at-l.result.now c.loop-w.w c.loop-w-test.false c.loop-w.invariant

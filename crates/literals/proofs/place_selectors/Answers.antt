use Rattle.literals.proofs.Spans.{selecting_start, selecting-end, selector-task, selecting-stop, selecting-next}
use Rattle.literals.proofs.Lines.{line-in}
use Rattle.std.proofs.lemmas.Result.{err_from_is_err_and}
use Rattle.literals.proofs.place_selectors.Goals as goal

pub loop-j-init : goal.loop-j-init
loop-j-init c = selecting_start c.requires c.args.x c.number_at-count.ensures.0

pub number_at-q-requires : goal.number_at-q-requires
number_at-q-requires c = line-in c.requires.task.line

pub place_selector-requires : goal.place_selector-requires
place_selector-requires c = selector-task c.requires c.args.x c.number_at-count.ensures.0 c.loop-j.invariant c.loop-j-test.true c.number_at-q.ensures.0

pub returns-in_err-y : goal.returns-in_err-y
returns-in_err-y c =
    let p = err_from_is_err_and c.from_residual.result c.from_residual.ensures.1 in
    rw (p.1, p.2) (selecting-stop c.requires c.args.x c.number_at-count.ensures.0 c.loop-j.invariant c.loop-j-test.true c.number_at-q.ensures.0 c.place_selector.result c.place_selector.ensures c.in_err-y.field-0.0 c.in_err-y.was)

pub loop-j-preserved : goal.loop-j-preserved
loop-j-preserved c = selecting-next c.requires c.args.x c.number_at-count.ensures.0 c.loop-j.invariant c.loop-j-test.true c.number_at-q.ensures.0 c.place_selector.result c.place_selector.ensures c.in_ok-y.was

pub returns : goal.returns
returns c = selecting-end c.requires c.args.x c.number_at-count.ensures.0 c.loop-j.invariant c.loop-j-test.false

use Rattle.literals.proofs.Turns.{turning-end, turn-line, turning-stop, turning-next}
use Rattle.literals.proofs.Lines.{line-in}
use mathlib.Core.Path.{refl}
use Rattle.std.specs.Prelude.{None, Ok, Err}
use Rattle.std.proofs.lemmas.Result.{err_from_is_err_and}
use Rattle.literals.proofs.fill.Goals as goal

pub number_at-count-requires : goal.number_at-count-requires
number_at-count-requires c = line-in c.requires.0.line

pub number_at-q-requires : goal.number_at-q-requires
number_at-q-requires c = line-in c.requires.0.line

pub fill_element-requires : goal.fill_element-requires
fill_element-requires c = turn-line c.requires.0 c.requires.1 c.empty.ensures c.number_at-count.ensures.0 c.loop-j.invariant c.loop-j-test.true c.number_at-q.ensures.0

pub returns-in_err-y : goal.returns-in_err-y
returns-in_err-y c =
    let p = err_from_is_err_and c.from_residual.result c.from_residual.ensures.1 in
    rw (p.1, p.2) (turning-stop c.requires.0 c.requires.1 c.empty.ensures c.number_at-count.ensures.0 c.loop-j.invariant c.loop-j-test.true c.number_at-q.ensures.0 c.fill_element.result c.fill_element.ensures (Err c.in_err-y.field-0.0) c.in_err-y.was refl)

pub returns-in_default : goal.returns-in_default
returns-in_default c = turning-stop c.requires.0 c.requires.1 c.empty.ensures c.number_at-count.ensures.0 c.loop-j.invariant c.loop-j-test.true c.number_at-q.ensures.0 c.fill_element.result c.fill_element.ensures (Ok None) (rw c.in_default.is at c.in_ok-y.was) refl

pub loop-j-preserved : goal.loop-j-preserved
loop-j-preserved c = turning-next c.requires.0 c.requires.1 c.empty.ensures c.number_at-count.ensures.0 c.loop-j.invariant c.loop-j-test.true c.number_at-q.ensures.0 c.fill_element.result c.fill_element.ensures (rw c.in-Some.is at c.in_ok-y.was)

pub returns : goal.returns
returns c = turning-end c.requires.0 c.requires.1 c.empty.ensures c.number_at-count.ensures.0 c.loop-j.invariant c.loop-j-test.false

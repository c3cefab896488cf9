use native.Mathlib.Omega.{arith}
use Rattle.lines.proofs.Laws.{going_done, going-unended, going-full, going-none, going_on}
use Rattle.answers.specs.declared.Refusal.TheVariants.{NoForm}
use Rattle.answers.proofs.First.{at-first}
use mathlib.Core.Path.{sym}
use Rattle.std.proofs.Common.{rules}
use Rattle.lines.proofs.index.Goals as goal

pub returns-then-at-e : goal.returns-then-at-e
returns-then-at-e c = going_done c.args.text.now c.loop-at.table c.loop-at.at c.loop-at.n c.find-e.result c.loop-at.invariant.1 c.find-e.ensures.0 c.loop-at.invariant.0 c.if-e-text.true c.if-at-e.true

pub returns-then-e-text : goal.returns-then-e-text
returns-then-e-text c = at-first NoForm c.loop-at.n (sym (going-unended c.args.text.now c.loop-at.table c.loop-at.at c.loop-at.n c.find-e.result c.loop-at.invariant.1 c.find-e.ensures.0 c.if-e-text.true c.if-at-e.false).0)

pub returns-then-n-eq-MOST_LINES : goal.returns-then-n-eq-MOST_LINES
returns-then-n-eq-MOST_LINES c = at-first NoForm c.loop-at.n (sym (going-full c.args.text.now c.loop-at.table c.loop-at.at c.loop-at.n c.find-e.result c.loop-at.invariant.1 c.find-e.ensures.0 (omega (arith, c.if-e-text.false)) c.if-n-eq-MOST_LINES.true).0)

pub returns-in_default : goal.returns-in_default
returns-in_default c = at-first NoForm c.loop-at.n (sym (going-none c.args.text.now c.loop-at.table c.loop-at.at c.loop-at.n c.find-e.result c.loop-at.invariant.1 c.find-e.ensures.0 (omega (arith, c.if-e-text.false)) c.form_of.result c.if-n-eq-MOST_LINES.false c.form_of.ensures.value c.in_default.is).0)

pub loop-at-preserved : goal.loop-at-preserved
loop-at-preserved c = (
  search rules,
  going_on c.args.text.now c.loop-at.table c.loop-at.at c.loop-at.n c.find-e.result c.loop-at.invariant.1 c.find-e.ensures.0 (omega (arith, c.if-e-text.false)) c.form_of.result c.if-n-eq-MOST_LINES.false c.form_of.ensures.value c.enter.new.table c.in-Some.is c.requires (omega (arith, c.loop-at.invariant.0)) c.enter.ensures,
)

use Rattle.std.proofs.Common.{◌∙◌, sym}
use borrow.Author.Tests.{ne_eqb}
use Rattle.decimal.proofs.Numbers.{signed-minus, signed-plus}
use Rattle.decimal.proofs.read_signed.Goals as goal

pub returns-in_err-n : goal.returns-in_err-n
returns-in_err-n c = let p = c.in-Some.ensures.cases in c.from_residual.ensures ∙ sym (signed-minus c.args.s.now p.0 p.1 c.in_err-n.ensures)

pub returns-then-n-eq0 : goal.returns-then-n-eq0
returns-then-n-eq0 c = let p = c.in-Some.ensures.cases in sym (signed-minus c.args.s.now p.0 p.1 c.in_ok-n.ensures ∙ simp c.if-n-eq0.true)

pub returns-else-n-eq0 : goal.returns-else-n-eq0
returns-else-n-eq0 c = let p = c.in-Some.ensures.cases in sym (signed-minus c.args.s.now p.0 p.1 c.in_ok-n.ensures ∙ simp (ne_eqb _ _ c.if-n-eq0.false))

pub returns-in_err-n-2 : goal.returns-in_err-n-2
returns-in_err-n-2 c = c.from_residual-in_err-n-2.ensures ∙ sym (signed-plus c.args.s.now c.in_default.ensures.cases c.in_err-n-2.ensures)

pub returns : goal.returns
returns c = sym (signed-plus c.args.s.now c.in_default.ensures.cases c.in_ok-n-2.ensures)

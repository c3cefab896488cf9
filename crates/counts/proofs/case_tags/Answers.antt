-- `counts::case_tags` meets its contract.
use native.Mathlib.Omega.{arith}
use mathlib.Core.Path.{◌∙◌}
use borrow.Author.Tests.{eq-eqb}
use Rattle.counts.proofs.Laws.{tags-exact}
use Rattle.counts.proofs.case_tags.Goals as goal

pub returns-then-x-eq-PC : goal.returns-then-x-eq-PC
returns-then-x-eq-PC c = let q = c.requires c.if-x-eq-PC.true in (c.number_at.ensures.0 ∙ tags-exact c.args.sheet.now c.number_at.ensures.2 _ (omega (arith, q.0, q.1)) q.2 ∙ simp (eq-eqb _ _ c.if-x-eq-PC.true), c.number_at.ensures.1)

use Rattle.lines.proofs.Laws.{line-text, next-line}
use native.Mathlib.Omega.{arith}
use Rattle.lines.proofs.Sheet.line_at.Goals as goal

pub slice_bounds-result-count : goal.slice_bounds-result-count
slice_bounds-result-count c = omega (arith, (next-line _ _ _ c.args.i c.self.invariant.lined (rw c.self.invariant.count at c.if-i-self.true) c.start_of-a.ensures c.start_of-b.ensures).3)

pub slice_bounds-result-start : goal.slice_bounds-result-start
slice_bounds-result-start c = (next-line _ _ _ c.args.i c.self.invariant.lined (rw c.self.invariant.count at c.if-i-self.true) c.start_of-a.ensures c.start_of-b.ensures).3

pub returns-then-i-self : goal.returns-then-i-self
returns-then-i-self c = rw (← c.self.view_is) (line-text _ _ _ c.args.i c.start_of-a.result _ c.self.invariant.lined (rw c.self.view_is c.requires) c.start_of-a.ensures (next-line _ _ _ c.args.i c.self.invariant.lined (rw c.self.invariant.count at c.if-i-self.true) c.start_of-a.ensures c.start_of-b.ensures).0, c.self.invariant.whole)

pub returns : goal.returns
returns c = rw (← c.self.view_is) (line-text _ _ _ c.args.i c.start_of-a.result c.find-e.result c.self.invariant.lined (rw c.self.view_is c.requires) c.start_of-a.ensures c.find-e.ensures.0, c.self.invariant.whole)

-- `refs::claim` meets its contract.
use Rattle.refs.proofs.Laws.{claim-plain, claim-zero, claim-late, claim-kind, claim-used, claim-good}
use Rattle.refs.specs.Refs.{used_at}
use Rattle.form.specs.Table.{kind_at}
use mathlib.Core.Path.{◌∙◌, sym, ap}
use Rattle.refs.proofs.claim.Goals as goal

pub returns-then-not-is_ref : goal.returns-then-not-is_ref
returns-then-not-is_ref c = claim-plain c.args.sheet.now c.args.work.now c.args.k c.args.x c.args.r (sym c.is_ref.ensures ∙ c.if-not-is_ref.true)

pub returns-then-r-eq0 : goal.returns-then-r-eq0
returns-then-r-eq0 c = claim-zero c.args.sheet.now c.args.work.now c.args.k c.args.x c.args.r (sym c.is_ref.ensures ∙ c.if-not-is_ref.false) c.if-r-eq0.true

pub returns-then-k-r : goal.returns-then-k-r
returns-then-k-r c = claim-late c.args.sheet.now c.args.work.now c.args.k c.args.x c.args.r (sym c.is_ref.ensures ∙ c.if-not-is_ref.false) c.if-r-eq0.false c.if-k-r.true

pub returns-then-kind-wanted : goal.returns-then-kind-wanted
returns-then-kind-wanted c = claim-kind c.args.sheet.now c.args.work.now c.args.k c.args.x c.args.r (sym c.is_ref.ensures ∙ c.if-not-is_ref.false) c.if-r-eq0.false c.if-k-r.false (λ q. c.if-kind-wanted.true (c.kind.ensures ∙ ap kind_at c.form_at.ensures.0 ∙ q ∙ sym c.wanted.ensures))

pub returns-then-work-i-ne0 : goal.returns-then-work-i-ne0
unfolding used_at
returns-then-work-i-ne0 c = claim-used c.args.sheet.now c.args.work.now c.args.k c.args.x c.args.r (sym c.is_ref.ensures ∙ c.if-not-is_ref.false) c.if-r-eq0.false c.if-k-r.false (ap kind_at (sym c.form_at.ensures.0) ∙ sym c.kind.ensures ∙ c.if-kind-wanted.false ∙ c.wanted.ensures) c.if-work-i-ne0.true

pub returns : goal.returns
unfolding used_at
returns c = claim-good c.args.sheet.now c.args.work.now c.args.k c.args.x c.args.r (sym c.is_ref.ensures ∙ c.if-not-is_ref.false) c.if-r-eq0.false c.if-k-r.false (ap kind_at (sym c.form_at.ensures.0) ∙ sym c.kind.ensures ∙ c.if-kind-wanted.false ∙ c.wanted.ensures) c.if-work-i-ne0.false

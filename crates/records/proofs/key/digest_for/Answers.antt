use mathlib.Core.Path.{◌∙◌, sym}
use Rattle.records.proofs.Digests.{digest-plain, digest-variant}
use Rattle.records.proofs.key.digest_for.Goals as goal

pub returns-then-case_of-eq0 : goal.returns-then-case_of-eq0
returns-then-case_of-eq0 c = (digest-plain c.args.sheet.now c.args.work.now c.args.i (c.digest-d.ensures.0 ∙ rw c.name_of.ensures) (sym c.case_of.ensures.0 ∙ c.if-case_of-eq0.true), c.digest-d.ensures.1)

pub returns : goal.returns
returns c = (digest-variant c.args.sheet.now c.args.work.now c.args.i (c.digest-d.ensures.0 ∙ rw c.name_of.ensures) c.digest_on-e.ensures.0 (c.digest_on.ensures.0 ∙ rw c.tag_of.ensures) (λ e. c.if-case_of-eq0.false (c.case_of.ensures.0 ∙ e)), c.digest_on.ensures.1)

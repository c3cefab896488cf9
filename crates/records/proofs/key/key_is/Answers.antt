use Rattle.std.proofs.Common.{rules}
use mathlib.Core.Path.{sym, ◌∙◌}
use Rattle.records.proofs.Digests.{keys-apart}
use Rattle.records.proofs.Keys.{plain-key, variant-key}
use Rattle.records.proofs.Newest.{record-room}
use native.Mathlib.Omega.{arith}
use Rattle.records.proofs.key.key_is.Goals as goal

pub digest_at-requires : goal.digest_at-requires
digest_at-requires c = let p = c.requires.0 in (record-room _ (search rules), omega (arith, p.low))

pub returns-then-digest_at-d : goal.returns-then-digest_at-d
returns-then-digest_at-d c = keys-apart c.args.key.now c.args.sheet.now c.args.work.now c.args.i c.requires.2 c.requires.1 (λ e. c.if-digest_at-d.true (c.digest_at.ensures.0 ∙ e))

pub returns-then-case_of-eq0 : goal.returns-then-case_of-eq0
returns-then-case_of-eq0 c = c.same.ensures ∙ rw (c.name_of-name.ensures, plain-key c.args.sheet.now c.args.work.now c.args.i (sym c.case_of.ensures.0 ∙ c.if-case_of-eq0.true))

pub returns : goal.returns
returns c = c.is_joined.ensures ∙ rw (c.name_of-name.ensures, c.tag_of.ensures, variant-key c.args.sheet.now c.args.work.now c.args.i (λ e. c.if-case_of-eq0.false (c.case_of.ensures.0 ∙ e)))

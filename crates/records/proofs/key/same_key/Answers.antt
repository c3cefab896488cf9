use Rattle.std.proofs.Common.{rules}
use lib.Dec.{eqb}
use mathlib.Core.Path.{sym, ap, ◌∙◌}
use Rattle.records.specs.Log.{recorded_at}
use Rattle.records.proofs.Digests.{keys-apart}
use Rattle.records.proofs.Keys.{keys-unnamed, keys-own, keys-plain, keys-tags}
use Rattle.records.proofs.Newest.{record-room}
use native.Mathlib.Omega.{arith}
use Rattle.records.proofs.key.same_key.Goals as goal

pub digest_at-requires : goal.digest_at-requires
digest_at-requires c = let p = c.requires.1 in (record-room _ (search rules), omega (arith, p.low))

pub digest_at-requires-2 : goal.digest_at-requires-2
digest_at-requires-2 c = let p = c.requires.0 in (record-room _ (search rules), omega (arith, p.low))

pub returns-then-digest_at : goal.returns-then-digest_at
returns-then-digest_at c = keys-apart (recorded_at c.args.sheet.now c.args.work.now c.args.i).key c.args.sheet.now c.args.work.now c.args.j (c.digest_at-2.ensures.0 ∙ c.requires.2) c.requires.3 (λ e. c.if-digest_at.true (c.digest_at.ensures.0 ∙ e))

pub returns-then-not-same : goal.returns-then-not-same
returns-then-not-same c = keys-unnamed c.args.sheet.now c.args.work.now c.args.i c.args.j c.requires.0 c.requires.1 (c.same.ensures ∙ rw (c.name_of.ensures, c.name_of-2.ensures)) (c.if-not-same.true)

pub returns-then-case_of-eq0 : goal.returns-then-case_of-eq0
returns-then-case_of-eq0 c = ap (λ d. eqb d 0) c.case_of-c.ensures.0 ∙ keys-own c.args.sheet.now c.args.work.now c.args.i c.args.j c.requires.0 c.requires.1 (c.same.ensures ∙ rw (c.name_of.ensures, c.name_of-2.ensures)) (c.if-not-same.false) (sym c.case_of.ensures.0 ∙ c.if-case_of-eq0.true)

pub returns-then-c-eq0 : goal.returns-then-c-eq0
returns-then-c-eq0 c = keys-plain c.args.sheet.now c.args.work.now c.args.i c.args.j c.requires.0 c.requires.1 (c.same.ensures ∙ rw (c.name_of.ensures, c.name_of-2.ensures)) (c.if-not-same.false) (λ e. c.if-case_of-eq0.false (c.case_of.ensures.0 ∙ e)) (sym c.case_of-c.ensures.0 ∙ c.if-c-eq0.true)

pub returns : goal.returns
returns c = keys-tags c.args.sheet.now c.args.work.now c.args.i c.args.j c.requires.0 c.requires.1 (c.same.ensures ∙ rw (c.name_of.ensures, c.name_of-2.ensures)) (c.if-not-same.false) (λ e. c.if-case_of-eq0.false (c.case_of.ensures.0 ∙ e)) (λ e. c.if-c-eq0.false (c.case_of-c.ensures.0 ∙ e)) (c.same-2.ensures ∙ rw (c.tag_of.ensures, c.tag_of-2.ensures))

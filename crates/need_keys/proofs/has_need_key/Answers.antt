use Rattle.std.proofs.Common.{rules}
use mathlib.Core.Path.{◌∙◌, sym}
use Rattle.type_lines.proofs.Spelling.{digests-apart}
use Rattle.type_keys.proofs.Table.{need-room}
use native.Mathlib.Omega.{arith}
use borrow.Author.Tests.{ne_eqb}
use Rattle.need_keys.proofs.has_need_key.Goals as goal

pub digest_at-requires : goal.digest_at-requires
digest_at-requires c = let x = c.requires.2 in (need-room (search rules), omega (arith, x.low))

pub returns-else-digest_at-d : goal.returns-else-digest_at-d
returns-else-digest_at-d c = let x = c.requires in ne_eqb c.digest_at.result c.args.d c.if-digest_at-d.false ∙ digests-apart x.0 x.2.line (λ e. c.if-digest_at-d.false (c.digest_at.ensures.0 ∙ x.2.digest ∙ sym e ∙ sym x.1))

use Rattle.std.proofs.Common.{rules}
use mathlib.Core.Path.{◌∙◌}
use borrow.Author.Tests.{ne_eqb}
use Rattle.global_table.proofs.Table.{global-room, named-apart}
use Rattle.global_table.proofs.is_named.Goals as goal

pub digest_at-requires : goal.digest_at-requires
digest_at-requires c = let b = c.requires.0 in (global-room (search rules), b.low)

pub returns-else-digest_at-d : goal.returns-else-digest_at-d
returns-else-digest_at-d c = ne_eqb c.digest_at.result c.args.d c.if-digest_at-d.false ∙ named-apart c.args.name.now c.requires.0 c.requires.1 (λ e. c.if-digest_at-d.false (c.digest_at.ensures.0 ∙ e))

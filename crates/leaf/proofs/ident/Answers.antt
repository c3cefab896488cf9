-- `leaf::ident` meets its contract.
use Rattle.leaf.proofs.Leaves.{answered-at, name-iota, name-found}
use mathlib.Core.Path.{sym, ◌∙◌}
use borrow.Author.Rules.{rules}
use Rattle.leaf.proofs.ident.Goals as goal

pub returns-then-same : goal.returns-then-same
returns-then-same c = name-iota c.requires.fold c.requires.form c.field_at-name.ensures.0 (sym c.same.ensures ∙ c.if-same.true) (search rules)

pub constant-requires : goal.constant-requires
constant-requires c = answered-at c.requires.fold c.look_up-k.ensures.low

pub returns : goal.returns
returns c = name-found c.requires.fold c.requires.form c.field_at-name.ensures.0 (sym c.same.ensures ∙ c.if-same.false) c.look_up-k.result c.look_up-k.ensures.value c.constant.ensures

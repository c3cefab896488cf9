-- `leaf::qualified` meets its contract.
use Rattle.leaf.proofs.Lines.{in-sheet}
use Rattle.leaf.proofs.Leaves.{answered-at, module-line, qualified-failed, qualified-found}
use mathlib.Core.Path.{sym, ◌∙◌}
use Rattle.leaf.proofs.qualified.Goals as goal

pub overflow_sub-q : goal.overflow_sub-q
overflow_sub-q c = (module-line c.requires.fold c.requires.form c.number_at-q.ensures.0).first

pub form_at-requires : goal.form_at-requires
form_at-requires c = in-sheet (module-line c.requires.fold c.requires.form c.number_at-q.ensures.0)

pub returns-then-form_at-ne-ID : goal.returns-then-form_at-ne-ID
returns-then-form_at-ne-ID c = λ iota. qualified-failed c.requires.fold c.requires.form c.number_at-q.ensures.0 (λ z. c.if-form_at-ne-ID.true (c.form_at.ensures.0 ∙ z))

pub overflow_sub-q-2 : goal.overflow_sub-q-2
overflow_sub-q-2 c = (module-line c.requires.fold c.requires.form c.number_at-q.ensures.0).first

pub field_at-within-requires : goal.field_at-within-requires
field_at-within-requires c = in-sheet (module-line c.requires.fold c.requires.form c.number_at-q.ensures.0)

pub constant-requires : goal.constant-requires
constant-requires c = answered-at c.requires.fold c.look_up-k.ensures.low

pub returns : goal.returns
returns c = λ iota. qualified-found c.requires.fold c.requires.form c.number_at-q.ensures.0 (sym c.form_at.ensures.0 ∙ c.if-form_at-ne-ID.false) c.field_at-within.ensures.0 c.field_at-name.ensures.0 c.look_up-k.result c.look_up-k.ensures.value c.constant.ensures

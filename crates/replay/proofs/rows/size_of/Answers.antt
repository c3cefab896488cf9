-- `replay::rows::size_of` meets its contract.
use Rattle.replay.proofs.Texts.{no_size, short-table, a-size}
use native.Mathlib.Omega.{arith}
use mathlib.Core.Path.{◌∙◌}
use Rattle.replay.proofs.rows.size_of.Goals as goal

pub returns-then-id-ge-TYPES : goal.returns-then-id-ge-TYPES
returns-then-id-ge-TYPES c = no_size c.args.work.now c.args.id c.if-id-ge-TYPES.true

pub returns-then-work-i : goal.returns-then-work-i
returns-then-work-i c = short-table c.args.work.now c.args.id c.if-work-i.true

pub returns : goal.returns
returns c = c.from.ensures ∙ a-size c.args.work.now c.args.id (omega arith)

-- `export::limbo_sheet_field` meets its contract.
use borrow.Author.Rules.{rules}
use Rattle.export.proofs.Laws.{field-length}
use Rattle.export.proofs.limbo_sheet_field.Goals as goal

pub returns : goal.returns
returns c = search (field-length, rules)

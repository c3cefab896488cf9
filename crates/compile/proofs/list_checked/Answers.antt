-- `compile::list_checked` meets its contract.
use Rattle.std.proofs.lemmas.Result.{err_from_is_err_and}
use Rattle.compile.proofs.Laws.{tables-listable, constant-refused}
use lib.ListN.{length}
use Rattle.compile.proofs.list_checked.Goals as goal

pub make_tables-requires : goal.make_tables-requires
make_tables-requires c = rw c.of-sheet.ensures.0 c.requires.1.1

pub list_rows-requires : goal.list_rows-requires
list_rows-requires c = (tables-listable _ _ c.in_ok-x.x c.in_ok-x.ensures.0, c.requires.0)

pub returns-in_err-x : goal.returns-in_err-x
returns-in_err-x c =
    let p = err_from_is_err_and c.from_residual.result c.from_residual.ensures.1 in
    rw (p.1, p.2) (constant-refused c.args.text.now (length c.args.listing.now) c.in_err-x.field-0.0 (rw c.of-sheet.ensures.0 at c.in_err-x.ensures.0.0))

pub returns : goal.returns
returns c = rw c.of-sheet.ensures.0 at c.list_rows.ensures

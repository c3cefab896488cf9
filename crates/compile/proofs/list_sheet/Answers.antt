-- `compile::list_sheet` meets its contract.
use Rattle.std.specs.Prelude.{Ok}
use Rattle.checks.proofs.Laws.{compiled_by}
use Rattle.compile.proofs.Laws.{tries-as, table-stands}
use lib.ListN.{length}
use mathlib.Core.Path.{sym}
use Rattle.compile.proofs.list_sheet.Goals as goal

pub list_checked-requires : goal.list_checked-requires
list_checked-requires c =
    let k = rw c.unwrap.ensures at c.split_first_chunk_mut.ensures.cases in
    (c.requires.0, rw k.0 c.requires.2.0)

pub returns : goal.returns
returns c =
    let e = compiled_by c.args.text.now (length c.args.work.now) (Ok c.args.n) c.requires.1 (length c.args.listing.now) in
    let k = rw c.unwrap.ensures at c.split_first_chunk_mut.ensures.cases in (
      tries-as c.args.text.now (length c.args.listing.now) c.list_checked.result _ (sym e) c.list_checked.ensures,
      table-stands c.args.text.now (length c.args.work.now) c.unwrap.result.0.now _ {n = c.args.n} c.list_checked.result (rw k.0 c.requires.2.0.0) c.requires.2.1,
    )

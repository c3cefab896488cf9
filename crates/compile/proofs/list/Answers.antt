-- `compile::list` meets its contract.
use Rattle.std.specs.Prelude.{Err}
use Rattle.std.proofs.lemmas.Result.{err_from_is_err_and}
use Rattle.checks.proofs.Laws.{compiled_by}
use lib.ListN.{length}
use Rattle.compile.proofs.list.Goals as goal

pub returns-in_err-n : goal.returns-in_err-n
returns-in_err-n c =
    let p = err_from_is_err_and c.from_residual.result c.from_residual.ensures.1 in
    rw (p.1, p.2) (record {
      outcome = compiled_by c.args.sheet.now (length c.args.work.now) (Err c.in_err-n.field-0.0) c.in_err-n.ensures.0 (length c.args.listing.now);
      bytes = c.zero.ensures;
      work = c.in_err-n.ensures.1;
    })

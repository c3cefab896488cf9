-- `listing::put_answer` meets its contract.
use Rattle.std.proofs.Common.{rules}
use Rattle.write.proofs.Writes.{writes_from}
use Rattle.listing.proofs.Laws.{listing-printed, refusal-printed}
use Rattle.listing.proofs.put_answer.Goals as goal

pub returns-in-Ok : goal.returns-in-Ok
returns-in-Ok c = listing-printed c.args.sheet.now c.in-Ok.ensures c.compile.auto.listing

pub returns-in-Err : goal.returns-in-Err
returns-in-Err c = refusal-printed c.args.sheet.now c.in-Err.r c.in-Err.ensures c.compile.auto.listing c.requires (writes_from c.from-w.ensures.bytes c.from-w.ensures.place c.put_refusal.ensures.0 (search (rules, c.put_refusal.ensures.0.same_buffer)), c.put_refusal.ensures.1)

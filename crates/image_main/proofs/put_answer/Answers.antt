-- `image_main::put_answer` meets its contract.
use Rattle.std.proofs.Common.{rules}
use Rattle.write.proofs.Writes.{writes_then, writes_from}
use Rattle.image_main.proofs.Laws.{refusal-printed, image-printed}
use Rattle.image.specs.Image.{lent_of}
use Rattle.image_main.proofs.put_answer.Goals as goal

pub returns-in-Ok : goal.returns-in-Ok
returns-in-Ok c =
    let w = writes_then c.put_row.ensures c.put_row-in-Ok.ensures in
    image-printed c.args.sheet.now (lent_of c.args.listing.now c.args.image.now c.args.area.now c.args.work.now) _ _ _ _ c.requires c.in-Ok.laid c.in-Ok.ensures.0 (writes_from c.from-w.ensures.bytes c.from-w.ensures.place w (search (rules, w.same_buffer)))

pub returns-in-Err : goal.returns-in-Err
returns-in-Err c =
    let w = c.put_refusal.ensures.0 in
    refusal-printed c.args.sheet.now (lent_of c.args.listing.now c.args.image.now c.args.area.now c.args.work.now) _ _ _ _ c.requires c.in-Err.r c.in-Err.ensures.0 (writes_from c.from-w-in-Err.ensures.bytes c.from-w-in-Err.ensures.place w (search (rules, w.same_buffer)), c.put_refusal.ensures.1)

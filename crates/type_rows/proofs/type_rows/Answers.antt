use Rattle.std.proofs.Common.{ℕ, [], ◌+◌, ◌∙◌, ap, arith}
use Rattle.checks.proofs.Kept.{kept_then, kept_less}
use Rattle.type_keys.proofs.Table.{kinds_kept}
use Rattle.semantics.specs.Types.{distinct}
use Rattle.semantics.specs.Sheet.{sheet_source}
use Rattle.type_rows.proofs.All.{all-rows, frames-low}
use Rattle.type_rows.proofs.Wrotes.{ready-kept, shapes-length}
use Rattle.type_rows.proofs.type_rows.Goals as goal

pub frame_rows-base-requires : goal.frame_rows-base-requires
frame_rows-base-requires c = (c.requires.0.log.checked, omega (arith, c.opaque_rows-frames.ensures.id))

pub need_rows-id-requires : goal.need_rows-id-requires
need_rows-id-requires c = (ready-kept c.frame_rows-base.ensures.kept (ready-kept c.opaque_rows-frames.ensures.kept c.requires.0), c.requires.1, omega (arith, c.frame_rows-base.ensures.id, c.opaque_rows-frames.ensures.id, frames-low c.args.sheet.now c.requires.0.log.checked))

pub kind_rows-requires : goal.kind_rows-requires
kind_rows-requires c = (omega (arith, c.need_rows-id.ensures.id), omega (arith, c.frame_rows-base.ensures.id, c.opaque_rows-frames.ensures.id, frames-low c.args.sheet.now c.requires.0.log.checked), c.requires.2)

pub returns : goal.returns
returns c =
    let k = kept_then c.opaque_rows-frames.ensures.kept (kept_then c.frame_rows-base.ensures.kept c.need_rows-id.ensures.kept) in
    let needs = (sheet_source c.args.sheet.now).needs in (
      λ is x. all-rows c.args.sheet.now is c.opaque_rows-frames.ensures c.frame_rows-base.ensures c.need_rows-id.ensures
          (c.kind_rows.ensures.0 c.args.sheet.now needs is (c.need_rows-id.ensures.id ∙ ap (λ (y : ℕ). c.frame_rows-base.result + y) (shapes-length c.args.sheet.now (distinct [] needs))) (kinds_kept (kept_less (omega arith) k) x)),
      kept_then k c.kind_rows.ensures.1,
    )

-- `image::image` meets its contract.
use Rattle.std.proofs.Common.{rules}
use native.Mathlib.Omega.{arith}
use mathlib.Core.Path.{refl, ap, ◌∙◌}
use Rattle.semantics.specs.Refusal.{zeros}
use Rattle.image.specs.Image.{lent_of}
use Rattle.image.proofs.Laws.{list-refused, replay-laid, replay-outgrown}
use Rattle.image.proofs.image.Goals as goal

pub slice_bounds-replay-end : goal.slice_bounds-replay-end
slice_bounds-replay-end c = omega (arith, c.in-Ok.ensures.0.room, c.list.auto.listing)

pub replay-laid-requires : goal.replay-laid-requires
replay-laid-requires c = omega (arith, c.in-Ok.ensures.1.work, c.list.auto.work)

pub returns-in-Err : goal.returns-in-Err
returns-in-Err c =
    let a = c.args in
    (list-refused a.sheet.now (lent_of a.listing.now a.image.now a.area.now a.work.now) c.in-Err.r c.in-Err.ensures c.zero.ensures c.zero-in-Err.ensures, c.in-Err.ensures.work)

pub returns-in-Some : goal.returns-in-Some
returns-in-Some c =
    let a = c.args in
    let p = c.replay-laid in (
      replay-laid a.sheet.now (lent_of a.listing.now a.image.now a.area.now a.work.now) c.in-Ok.ensures.0 refl refl p.ensures p.auto.image p.auto.area c.in-Some.is,
      c.zero-in-Ok.ensures ∙ ap zeros (search (rules, c.list.auto.work)),
    )

pub returns-in-None : goal.returns-in-None
returns-in-None c =
    let a = c.args in
    let p = c.replay-laid in (
      replay-outgrown a.sheet.now (lent_of a.listing.now a.image.now a.area.now a.work.now) c.in-Ok.ensures.0 refl refl p.ensures c.in-None.is c.list.auto.listing c.zero-in-None.ensures,
      c.zero-in-Ok.ensures ∙ ap zeros (search (rules, c.list.auto.work)),
    )

use Rattle.std.proofs.Common.{◌∙◌, ◌<◌, ◌≤◌, arith, length}
use Rattle.sizes.specs.Places.{fd_at}
use Rattle.sizes.proofs.Places.{type-line, names-few, names-are, names-small}
use Rattle.field_rows.proofs.Fields.{name-rows-start, name-rows-next, name-rows-end, name-at, line-untyped, line-typed}
use Rattle.field_rows.proofs.put_line.Goals as goal

pub returns-then-t-eq0 : goal.returns-then-t-eq0
returns-then-t-eq0 c = (line-untyped c.args.sheet.now c.args.r c.requires.0 _ c.number_at-t.ensures.0 c.args.end c.args.w.now c.if-t-eq0.true, omega arith)

pub type_size_align-x-requires : goal.type_size_align-x-requires
type_size_align-x-requires c = type-line c.args.sheet.now c.args.r c.requires.0 _ c.number_at-t.ensures.0 c.if-t-eq0.false

pub loop-j-init : goal.loop-j-init
loop-j-init c = name-rows-start _ _ _ c.args.w.now

pub loop-j-preserved : goal.loop-j-preserved
loop-j-preserved c =
    let h : c.loop-j.j < length (fd_at c.args.sheet.now c.args.r).names = omega (arith, names-are c.args.sheet.now c.args.r c.requires.0 _ c.number_at-t.ensures.0 c.if-t-eq0.false _ c.number_at-count.ensures.0, c.loop-j-test.true) in
    name-rows-next _ _ _ c.args.w.now _ _ _ c.loop-j.invariant h _ (rw (c.field_at-name.ensures.0 ∙ name-at c.args.sheet.now c.args.r c.requires.0 c.loop-j.j h) at c.put_row.ensures)

pub returns : goal.returns
returns c =
    let are = names-are c.args.sheet.now c.args.r c.requires.0 _ c.number_at-t.ensures.0 c.if-t-eq0.false _ c.number_at-count.ensures.0 in
    let few : c.loop-j.j ≤ 16 = omega (arith, c.loop-j.invariant.within, are, names-few c.args.sheet.now c.args.r c.requires.0 _ c.number_at-t.ensures.0 c.if-t-eq0.false _ c.number_at-count.ensures.0) in (
      line-typed c.args.sheet.now c.args.r c.requires.0 _ c.number_at-t.ensures.0 c.args.end c.args.w.now c.if-t-eq0.false c.type_size_align-x.ensures c.align_up-offset.ensures.0
          (name-rows-end _ _ _ c.args.w.now _ _ _ c.loop-j.invariant (omega (arith, are, c.loop-j-test.false))),
      omega (arith, c.loop-j.invariant.small, c.align_up-offset.ensures.1, c.type_size_align-x.ensures.low, names-small few c.type_size_align-x.ensures.small),
    )

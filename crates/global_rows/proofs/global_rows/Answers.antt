use Rattle.std.proofs.Common.{ℕ, ◌≡◌, ap, arith}
use Rattle.semantics.specs.Listing.{global_row}
use Rattle.semantics.specs.Sheet.{concat_map}
use Rattle.global_rows.proofs.Rows.{rows_next}
use Rattle.global_table.specs.Table.{places_in, entries_from}
use Rattle.write.proofs.Writes.{writes_none, writes_as}
use Rattle.global_rows.proofs.global_rows.Goals as goal

pub loop-i-init : goal.loop-i-init
unfolding entries_from
loop-i-init c = (omega arith, writes_none _ c.args.w.now.room)

pub global_row-requires : goal.global_row-requires
global_row-requires c = c.requires.entries _ c.loop-i-test.true

pub loop-i-preserved : goal.loop-i-preserved
loop-i-preserved c = (omega (arith, c.loop-i-test.true), rows_next c.args.sheet.now c.args.work.now c.loop-i.i c.loop-i.invariant.1 c.global_row.ensures)

pub returns : goal.returns
returns c =
    let z : c.loop-i.i ≡ c.args.g = omega (arith, c.loop-i.invariant.0, c.loop-i-test.false) in
    writes_as (ap (λ (j : ℕ). concat_map global_row (places_in c.args.sheet.now c.args.work.now j)) z) c.loop-i.invariant.1

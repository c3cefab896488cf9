-- `parts::put_types` meets its contract.
use Rattle.std.proofs.Common.{arith}
use Rattle.data_rows.specs.Data.{items_in}
use Rattle.parts.proofs.Types.{types-ready, uses-ready, types-rows}
use Rattle.parts.proofs.put_types.Goals as goal

pub type_rows-requires : goal.type_rows-requires
type_rows-requires c = (types-ready c.requires c.frame_count-frames.ensures c.data_rows-keys.ensures.3, c.requires.held.count, c.data_rows-keys.ensures.2)

pub use_rows-requires : goal.use_rows-requires
use_rows-requires c = (omega (arith, c.requires.held.count, c.requires.held.needs.few), c.frame_count-frames.ensures.1)

pub returns : goal.returns
returns c =
    let w = c.type_rows.ensures.0 (items_in c.args.sheet.now c.args.work.now c.args.x.consts) c.data_rows-keys.ensures.1 in
    let u = uses-ready c.requires c.frame_count-frames.ensures c.data_rows-keys.ensures.3 c.type_rows.ensures.1 in
    (types-rows c.requires c.data_rows-keys.ensures.0 w (λ is. c.use_rows.ensures c.args.sheet.now is u), c.requires.held.checked)

-- `global_table::enter` meets its contract.
use mathlib.Core.Path.{ap, ◌∙◌}
use native.Mathlib.Omega.{arith}
use lib.ListN.{length, length-set}
use Rattle.global_table.proofs.Table.{global-room, entered_by, entered-long}
use Rattle.global_table.proofs.enter.Goals as goal

pub link-requires : goal.link-requires
link-requires c = (global-room (simp length-set (omega arith)), omega arith)

pub returns : goal.returns
returns c =
    let a = c.args in
    entered_by a.work.now a.i a.line a.position a.offset a.digest c.link.ensures

-- `globals::declare_line` meets its contract.
use Rattle.globals.proofs.Collect.{line-none, line-room, line-laid}
use Rattle.globals.proofs.declare_line.Goals as goal

pub declare_global-requires : goal.declare_global-requires
declare_global-requires c =
    let a = c.args in
    let p = c.requires in
    let l = c.in-Some.ensures in
    (p.0, l.1, line-room a.sheet.now a.work.now a.i a.g p.0 p.1.checked p.2 _ l.0 l.1 p.3)

pub returns-in-Some : goal.returns-in-Some
returns-in-Some c =
    let a = c.args in
    let p = c.requires in
    let l = c.in-Some.ensures in
    line-laid a.sheet.now a.work.now a.i a.g p.0 p.1.checked p.2 _ l.0 l.1 c.declare_global.ensures

pub returns-in-None : goal.returns-in-None
returns-in-None c =
    let a = c.args in
    line-none a.sheet.now a.work.now a.i a.g c.requires.0 c.in-None.ensures.0

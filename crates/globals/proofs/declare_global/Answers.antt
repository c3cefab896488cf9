use Rattle.globals.proofs.Declare.{naming-start, naming-next, naming-end}
use Rattle.globals.proofs.declare_global.Goals as goal

pub loop-j-init : goal.loop-j-init
loop-j-init c =
    let a = c.args in
    naming-start a.sheet.now a.work.now a.r a.g c.name_count-count.result c.requires.0

pub loop-j-preserved : goal.loop-j-preserved
loop-j-preserved c =
    let a = c.args in
    let l = c.loop-j in
    naming-next a.sheet.now a.work.now a.r a.g c.name_count-count.result c.requires.1 c.name_count-count.ensures l.work l.h l.j l.invariant c.loop-j-test.true c.declare_name-h.ensures

pub returns : goal.returns
returns c =
    let a = c.args in
    let l = c.loop-j in
    naming-end a.sheet.now a.work.now a.r a.g c.name_count-count.result c.requires.1 c.name_count-count.ensures l.work l.h l.j l.invariant c.loop-j-test.false

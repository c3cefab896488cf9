-- `implement::open_after` meets its contract.
use native.Mathlib.Omega.{arith}
use Rattle.lines.proofs.Line.{form-low}
use Rattle.implement.proofs.Modules.{open-mod, open-end, open-other}
use Rattle.implement.proofs.open_after.Goals as goal

pub returns-in-77 : goal.returns-in-77
returns-in-77 c =
    let a = c.args in
    open-mod a.sheet.now a.i a.k c.requires.0 c.requires.1 _ _ c.form_at.ensures.0 c.kind.ensures c.in-77.is

pub returns-in-79 : goal.returns-in-79
returns-in-79 c =
    let a = c.args in
    open-end a.sheet.now a.i a.k c.requires.0 c.requires.1 _ _ c.form_at.ensures.0 c.kind.ensures c.in-79.is

pub returns-in_default : goal.returns-in_default
returns-in_default c =
    let a = c.args in
    open-other a.sheet.now a.i a.k c.requires.0 c.requires.1 _ _ c.form_at.ensures.0 c.kind.ensures (omega arith) (omega arith)

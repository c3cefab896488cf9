-- `entries::keep_string` meets its contract.
use Rattle.entries.proofs.Laws as Laws
use mathlib.Core.Path.{refl}
use Rattle.entries.proofs.keep_string.Goals as goal

pub returns-in-Int : goal.returns-in-Int
returns-in-Int c = Laws.string-none c.args.work.now c.args.m c.in-Int.is refl refl

pub returns-in-Real : goal.returns-in-Real
returns-in-Real c = Laws.string-none c.args.work.now c.args.m c.in-Real.is refl refl

pub returns-in-Str : goal.returns-in-Str
returns-in-Str c = Laws.string-some c.args.work.now c.args.m c.in-Str.is c.copy.ensures

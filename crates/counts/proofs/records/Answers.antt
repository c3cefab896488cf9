-- `counts::records` meets its contract.
use native.Mathlib.Omega.{arith}
use Rattle.counts.proofs.Laws.{records-adt, records-pick, records-none}
use Rattle.counts.proofs.records.Goals as goal

pub returns-in-65 : goal.returns-in-65
returns-in-65 c = (records-adt c.args.sheet.now c.args.i c.args.k c.requires.2 c.in-65.is, omega arith)

pub returns-in-66 : goal.returns-in-66
returns-in-66 c = (records-pick c.args.sheet.now c.args.i c.args.k c.requires.2 (omega (arith, c.in-66.is)) c.in-66.is c.tags.ensures.0, omega (arith, c.tags.ensures.1))

pub returns-in_default : goal.returns-in_default
returns-in_default c = (records-none c.args.sheet.now c.args.i c.args.k c.requires.2 (omega arith) (omega arith), omega arith)

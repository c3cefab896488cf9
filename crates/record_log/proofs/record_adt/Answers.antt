use Rattle.record_log.proofs.Log.{adt-entries, pick-entries, no-entries, line-pick}
use Rattle.write.proofs.Wrote.{wrote_none, then, wrote_as, place-low}
use Rattle.record_log.proofs.record_adt.Goals as goal

pub returns-then-f-eq-ADT : goal.returns-then-f-eq-ADT
returns-then-f-eq-ADT c = wrote_as (adt-entries c.args.sheet.now c.requires.0 c.args.r c.requires.1 c.requires.2 c.form_at-f.ensures.0 c.if-f-eq-ADT.true) c.put_entry.ensures

pub put_cases-requires : goal.put_cases-requires
put_cases-requires c = (line-pick c.args.sheet.now c.requires.0 c.args.r c.requires.1 c.requires.2 c.form_at-f.ensures.0 c.if-f-eq-PICK.true, place-low c.put_entry-p.ensures)

pub returns-then-f-eq-PICK : goal.returns-then-f-eq-PICK
returns-then-f-eq-PICK c = wrote_as (pick-entries c.args.sheet.now c.requires.0 c.args.r c.requires.1 c.requires.2 c.form_at-f.ensures.0 c.if-f-eq-PICK.true) (then c.put_entry-p.ensures c.put_cases.ensures)

pub returns : goal.returns
returns c = wrote_as (no-entries c.args.sheet.now c.requires.0 c.args.r c.requires.1 c.requires.2 c.form_at-f.ensures.0 c.if-f-eq-ADT.false c.if-f-eq-PICK.false) (wrote_none c.args.work.now c.args.at c.requires.3)

use Rattle.std.proofs.Common.{inl, inr, rules}
use Rattle.global_table.specs.Table.{places_in}
use Rattle.names.specs.Table.{names_in}
use Rattle.data_rows.proofs.Walk.{none-laid, line-task, line-items, line-none}
use Rattle.data_rows.proofs.line_rows.Goals as goal

pub returns-in_default : goal.returns-in_default
returns-in_default c = none-laid c.args.sheet.now (names_in c.args.sheet.now c.args.work.now c.args.c.consts) (places_in c.args.sheet.now c.args.work.now c.args.c.globals) c.in_default.is

pub names_rows-requires : goal.names_rows-requires
names_rows-requires c = (line-task c.in-Some.r c.requires.0 (rw c.in-Ok-Some.field-0-is at c.in-Ok-Some.ensures), rw c.in-Some.is at c.requires.1)

pub returns-in-Ok-Some : goal.returns-in-Ok-Some
returns-in-Ok-Some c = rw c.in-Some.is (line-items c.in-Some.r c.requires.0 (rw c.in-Ok-Some.field-0-is at c.in-Ok-Some.ensures) c.names_rows.ensures)

pub returns-in-Ok-None : goal.returns-in-Ok-None
returns-in-Ok-None c = rw c.in-Some.is (line-none c.in-Some.r c.requires.0 c.first_value.ensures (inl (search rules)))

pub returns-in-Ok-None-2 : goal.returns-in-Ok-None-2
returns-in-Ok-None-2 c = rw c.in-Some.is (line-none c.in-Some.r c.requires.0 c.first_value.ensures (inr (search rules)))

-- `pends::pend_line` meets its contract.
use Rattle.std.proofs.Common.{ap, ◌∙◌, sym}
use Rattle.std.specs.Prelude.{option_map}
use Rattle.answers.specs.Answers.{refusal_of}
use Rattle.write.proofs.Writes.{writes_none}
use Rattle.pends.proofs.Rows.{line-pending, line-quiet}
use Rattle.pends.proofs.Walk.{none-laid}
use Rattle.placements.proofs.Same.{keeps-all}
use Rattle.pends.proofs.pend_line.Goals as goal

pub var_value-requires : goal.var_value-requires
var_value-requires c = (rw c.in-Some.is at c.requires.0, c.requires.1)

pub returns-in_default : goal.returns-in_default
returns-in_default c = (none-laid _ c.args.sheet.now c.in_default.is (writes_none _ c.args.w.now.room), keeps-all)

pub returns-in_default-var_value : goal.returns-in_default-var_value
returns-in_default-var_value c = rw c.in-Some.is (line-quiet c.args.sheet.now c.in-Some.r _ c.var_value.ensures c.in_default-var_value.is (writes_none _ c.args.w.now.room), c.var_value.ensures.keeps)

pub pend_names-requires : goal.pend_names-requires
pend_names-requires c = rw c.in-Some.is at c.requires.0

pub returns : goal.returns
returns c = rw c.in-Some.is (line-pending c.args.sheet.now c.in-Some.r _ c.var_value.ensures c.in-Err.is (sym (ap (option_map refusal_of) c.in_default-refusal.is) ∙ c.refusal.ensures) c.pend_names.ensures, c.var_value.ensures.keeps)

-- `checks::rules` meets its contract.
use Rattle.answers.specs.declared.Refusal.TheVariants.{BadReference, DeepNesting, BadModule, TooMany}
use Rattle.answers.proofs.First.{none-bad}
use Rattle.checks.proofs.Laws.{unused, checked-well, all-checked}
use Rattle.checks.proofs.rules.Goals as goal

pub bad_ref-requires : goal.bad_ref-requires
bad_ref-requires c = unused 62464 c.args.work.now c.requires.1

pub too_many-requires : goal.too_many-requires
too_many-requires c = none-bad BadReference _ c.in_ok-bad_ref.ensures

pub returns : goal.returns
returns c =
    let q = c.of-sheet.ensures.0 in
    let formed = c.in_ok-n.ensures.1 in
    let refs = rw q at (none-bad BadReference _ c.in_ok-bad_ref.ensures) in
    let nests = rw q at (none-bad DeepNesting _ c.in_ok-too_deep.ensures) in
    let modules = rw q at (none-bad BadModule _ c.in_ok-bad_module.ensures) in
    let counts = rw q at (none-bad TooMany _ c.in_ok-too_many.ensures) in
    (checked-well c.args.text.now refs nests modules counts formed, (c.in_ok-n.ensures.0, all-checked c.args.text.now refs nests modules counts c.in_ok-n.ensures.0.whole))

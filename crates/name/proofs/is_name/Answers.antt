-- `name::is_name` meets its contract.
use Rattle.std.proofs.Common.{◌∙◌, sym}
use Rattle.name.proofs.Names.{no_bytes, too_long, no_letter, name_all}
use Rattle.name.proofs.is_name.Goals as goal
use Rattle.name.proofs.is_name.Goals.{then-is_empty-via-then-is_empty, then-is_empty-via-else-is_empty+then-s-gt-LONGEST_NAME, then-is_empty-via-else-is_empty+else-s-gt-LONGEST_NAME+then-not-is_letter}

pub returns-then-is_empty : goal.returns-then-is_empty
returns-then-is_empty c =
    let s = c.args.s.now in
    elim c.then-is_empty.branch [
      | then-is_empty-via-then-is_empty w ↦ no_bytes s (sym w.if-is_empty.ensures)
      | then-is_empty-via-else-is_empty+then-s-gt-LONGEST_NAME w ↦ too_long s w.if-s-gt-LONGEST_NAME.true
      | then-is_empty-via-else-is_empty+else-s-gt-LONGEST_NAME+then-not-is_letter w ↦ no_letter s (sym w.if-not-is_letter.ensures)
    ]

pub returns : goal.returns
returns c = c.are_name_bytes.ensures ∙ name_all c.args.s.now (sym c.if-is_empty.ensures) c.if-s-gt-LONGEST_NAME.false (sym c.if-not-is_letter.ensures)

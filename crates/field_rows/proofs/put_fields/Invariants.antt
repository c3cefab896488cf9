use Rattle.field_rows.proofs.Fields.{Fielding}
use Rattle.field_rows.proofs.put_fields.Given as goal

abbrev pub invariant-loop-j : goal.invariant-loop-j
invariant-loop-j l = Fielding l.sheet l.f l.initial.offset l.initial.w l.w l.offset l.j

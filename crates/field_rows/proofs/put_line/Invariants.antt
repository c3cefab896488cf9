use Rattle.sizes.specs.Places.{fd_at}
use Rattle.field_rows.proofs.Fields.{NameRowsWritten}
use Rattle.field_rows.proofs.put_line.Given as goal

abbrev pub invariant-loop-j : goal.invariant-loop-j
invariant-loop-j l = NameRowsWritten l.size l.initial.offset (fd_at l.sheet l.r).names l.initial.w l.w l.offset l.j

use Rattle.std.proofs.Common.{sym, arith}
use Rattle.write.proofs.Writes.{writes_then, writes_as, decimal-one-digit}
use Rattle.write.proofs.Decimal.{decimal-more}
use Rattle.write.proofs.Writer.+put_nat.Goals as goal
use Rattle.write.proofs.Writer.+put_nat.Goals.{then-n-gt9, else-n-gt9}

pub returns : goal.returns
returns t c =
    elim c.if-n-gt9.branch [
      | then-n-gt9 w ↦ writes_as (sym (decimal-more c.args.n (omega arith))) (writes_then (rw w.self-is w.put_nat.ensures) c.put.ensures)
      | else-n-gt9 w ↦ writes_as (sym (decimal-one-digit c.args.n (omega arith))) (rw (← w.self-is) c.put.ensures)
    ]

-- `answers::put_refusal` meets its contract.
use Rattle.answers.specs.Answers.{refusal_number, refusal_line}
use Rattle.answers.proofs.Rows.{refusal-row}
use Rattle.write.proofs.Writes.{writes_then}
use native.Mathlib.Omega.{arith}
use Rattle.answers.proofs.put_refusal.Goals as goal

pub returns : goal.returns
returns c = refusal-row (refusal_number c.args.r) (refusal_line c.args.r) (omega arith) (omega arith) c.number.ensures c.line.ensures (writes_then c.put_part.ensures (writes_then c.comma_nat.ensures (writes_then c.comma_nat-2.ensures c.lf.ensures)))

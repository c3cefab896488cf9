-- `values::str_binary` meets its contract.
use Rattle.std.proofs.Common.{arith}
use Rattle.values.proofs.Values.{joins, joins_long}
use Rattle.values.proofs.str_binary.Goals as goal

pub returns-then-joined-gt-LONGEST_STRING : goal.returns-then-joined-gt-LONGEST_STRING
returns-then-joined-gt-LONGEST_STRING c = λ t h. joins_long c.args.op c.args.p c.args.l c.args.m t h c.in-Add.is (omega arith)

pub returns-else-joined-gt-LONGEST_STRING : goal.returns-else-joined-gt-LONGEST_STRING
returns-else-joined-gt-LONGEST_STRING c = λ t h. joins c.args.op c.args.p c.args.l c.args.m t h c.in-Add.is (omega arith) (omega arith)

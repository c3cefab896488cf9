use Rattle.values.specs.Values.{value_in}
use Rattle.checks.proofs.Kept.{outside-all}
use Rattle.data_rows.proofs.Printed.{printed-value}
use Rattle.data_rows.proofs.Firsts.{first-value, first-array}
use Rattle.data_rows.proofs.first_rows.Goals as goal

pub returns-in-Value : goal.returns-in-Value
returns-in-Value c = (λ s ty hf h. first-value ty c.args.off c.in-Value.is (printed-value c.args.off ty (value_in c.args.work.now c.in-Value.v) (λ id. c.value_item.ensures id ty h)), outside-all)

pub returns-in-Array : goal.returns-in-Array
returns-in-Array c = (λ s ty hf h. first-array ty c.args.off c.in-Array.is (c.array_rows.ensures.0 s hf), c.array_rows.ensures.1)

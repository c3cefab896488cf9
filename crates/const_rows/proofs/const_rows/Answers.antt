-- `const_rows::const_rows` meets its contract.
use Rattle.const_rows.proofs.Laws.{all-rows}
use Rattle.const_rows.proofs.const_rows.Goals as goal

pub returns : goal.returns
returns c = all-rows c.args.sheet.now c.args.work.now c.args.consts c.rows.ensures c.rows-2.ensures

use Rattle.items.proofs.Rows.{int-item, real-item, string-item}
use Rattle.items.proofs.value_item.Goals as goal

pub returns-in-Int : goal.returns-in-Int
returns-in-Int c = λ id ty h. int-item id c.args.off ty c.args.work.now c.in-Int.is c.int_kind.ensures h (c.number_row.ensures c.args.work.now)

pub returns-in-Real : goal.returns-in-Real
returns-in-Real c = λ id ty h. real-item id c.args.off ty c.args.work.now c.in-Real.is (c.number_row-in-Real.ensures c.args.work.now)

pub returns-in-Str : goal.returns-in-Str
returns-in-Str c = λ id ty h. string-item id c.args.off ty c.args.work.now c.in-Str.is (c.str_row.ensures id)

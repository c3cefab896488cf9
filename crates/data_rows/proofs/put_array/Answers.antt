use Rattle.data_rows.proofs.put_array.Goals as goal

pub returns-in-Alloc : goal.returns-in-Alloc
returns-in-Alloc c = rw c.in-Alloc.is (λ f h. c.alloc_item.ensures f _ h)

pub returns-in-Literal : goal.returns-in-Literal
returns-in-Literal c = rw c.in-Literal.is c.array_items.ensures

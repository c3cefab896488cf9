use Rattle.values.specs.Values.{string_in, value_in}
use Rattle.elements.proofs.put_element.Goals as goal

pub returns-in-Str : goal.returns-in-Str
unfolding value_in
returns-in-Str c = λ t. rw c.in-Str.is (c.put_zero_element.ensures (string_in t c.in-Str.field-0 c.in-Str.field-1))

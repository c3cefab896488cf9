use Rattle.elements.specs.Elements.{head_text}
use Rattle.write.proofs.Writes.{writes_then}
use Rattle.elements.proofs.put_head.Goals as goal

pub returns : goal.returns
unfolding head_text
returns c = writes_then c.put_part.ensures (writes_then c.put_kind.ensures (writes_then c.comma_nat.ensures c.comma_nat-2.ensures))

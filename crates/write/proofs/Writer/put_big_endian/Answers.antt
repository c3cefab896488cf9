use Rattle.std.proofs.Common.{◌-◌, ◌∙◌, ap, take, drop}
use Rattle.write.proofs.Writes.{writes_as, last-bytes}
use Rattle.write.proofs.Writer.put_big_endian.Goals as goal

pub returns : goal.returns
returns c = writes_as (ap (λ l. take (8 - (8 - c.args.w)) (drop (8 - c.args.w) l)) c.to_be_bytes.ensures ∙ last-bytes c.args.w c.args.n c.requires) c.put_part.ensures

use Rattle.records.proofs.Keys.{joined-short, joined-undotted, joined-unnamed, joined-tag}
use Rattle.records.proofs.key.is_joined.Goals as goal

pub returns-then-key-k : goal.returns-then-key-k
returns-then-key-k c = joined-short c.args.key.now c.args.name.now c.args.tag.now c.if-key-k.true

pub returns-then-key-k-ne46 : goal.returns-then-key-k-ne46
returns-then-key-k-ne46 c = joined-undotted c.args.key.now c.args.name.now c.args.tag.now c.if-key-k.false c.if-key-k-ne46.true

pub returns-then-not-same : goal.returns-then-not-same
returns-then-not-same c = joined-unnamed c.args.key.now c.args.name.now c.args.tag.now c.if-key-k.false c.same.ensures (c.if-not-same.true)

pub returns : goal.returns
returns c = joined-tag c.args.key.now c.args.name.now c.args.tag.now c.if-key-k.false c.if-key-k-ne46.false c.same.ensures (c.if-not-same.false) c.same-2.ensures

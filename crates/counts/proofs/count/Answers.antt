-- `counts::count` meets its contract.
use mathlib.Core.Path.{◌∙◌, sym, ap}
use Rattle.lines.proofs.Line.{kind-is}
use Rattle.form.specs.Table.{kind_at}
use Rattle.counts.specs.Counts.{counts_of}
use Rattle.counts.proofs.Laws.{counts-are}
use Rattle.counts.proofs.count.Goals as goal

pub records-r-requires : goal.records-r-requires
records-r-requires c = (c.requires.0, c.requires.1, c.kind-k.ensures ∙ ap kind_at c.form_at.ensures.0 ∙ sym (kind-is c.args.sheet.now c.form_at.ensures.2 c.args.i c.requires.1))

pub names-v-requires : goal.names-v-requires
names-v-requires c = (c.requires.1, c.kind-k.ensures ∙ ap kind_at c.form_at.ensures.0 ∙ sym (kind-is c.args.sheet.now c.form_at.ensures.2 c.args.i c.requires.1))

pub returns : goal.returns
returns c = counts-are c.args.sheet.now c.args.i c.kind-k.result (c.kind-k.ensures ∙ ap kind_at c.form_at.ensures.0 ∙ sym (kind-is c.args.sheet.now c.form_at.ensures.2 c.args.i c.requires.1)) (counts_of c.args.t) c.one.result c.one-2.result c.one-3.result c.records-r.result c.names-v.result c.one.ensures.0 c.one-2.ensures.0 c.one-3.ensures.0 c.records-r.ensures.0 c.names-v.ensures.0

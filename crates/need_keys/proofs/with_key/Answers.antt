use native.Mathlib.Omega.{arith}
use mathlib.Core.Path.{◌∙◌, sym}
use borrow.Author.Tests.{eq-eqb, ne_eqb}
use Rattle.type_keys.proofs.Elements.{keys-more}
use Rattle.need_keys.proofs.with_key.Goals as goal

pub returns-then-p-keys : goal.returns-then-p-keys
returns-then-p-keys c = λ k ks hp hk. sym (keys-more k ks c.args.p c.args.keys hp hk ∙ rw (eq-eqb c.args.p c.args.keys c.if-p-keys.true) (omega arith))

pub returns-else-p-keys : goal.returns-else-p-keys
returns-else-p-keys c = λ k ks hp hk. sym (keys-more k ks c.args.p c.args.keys hp hk ∙ rw (ne_eqb c.args.p c.args.keys c.if-p-keys.false))

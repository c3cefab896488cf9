-- `names::look_up_before` meets its contract.
use Rattle.names.proofs.Laws as Laws
use Rattle.chains.specs.Chains.{chain_of, chain_at, in_chain, newest_of}
use Rattle.names.specs.Table.{const_chains, key_of}
use Rattle.chains.proofs.Laws.{newest-most}
use mathlib.Core.Path.{sym, ap, ◌∙◌}
use native.Mathlib.Omega.{arith}
use Prim.Native.Nat.{ℕ}
use Rattle.names.proofs.look_up_before.Goals as goal

pub earlier-older-requires : goal.earlier-older-requires
earlier-older-requires c = let p = c.requires in Laws.entry-asked p.0 p.3 p.1

pub digest_at-d-requires : goal.digest_at-d-requires
digest_at-d-requires c = let p = c.requires in Laws.entry-asked p.0 p.3 p.1

pub along-requires : goal.along-requires
along-requires c =
    let a = c.args in
    let p = c.requires in
    let e = newest-most _ (c.earlier-older.ensures ∙ p.0.logged.chained.links _ p.1) in
    (p.0, omega (arith, e, p.1), c.digest_at-d.ensures.0 ∙ p.0.logged.digests a.i p.1 ∙ Laws.key-digested a.sheet.now a.work.now a.i (key_of a.key) p.2, p.3)

pub returns : goal.returns
unfolding chain_at
returns c =
    let a = c.args in
    let p = c.requires in
    let e = c.earlier-older.ensures ∙ p.0.logged.chained.links _ p.1 ∙ ap (λ (d : ℕ). newest_of (in_chain a.work.now const_chains (chain_of d)) a.i) (sym c.digest_at-d.ensures.0) in
    Laws.looked a.sheet.now a.work.now (key_of a.key) (c.along.ensures a.i (omega (arith, p.1)) e)

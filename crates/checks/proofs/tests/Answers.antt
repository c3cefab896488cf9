-- `checks::tests` meets its contract.
use Rattle.std.proofs.Common.{arith, ℕ, ap, length, take, drop, ◌≤◌, ◌-◌}
use Rattle.std.proofs.lemmas.List.{take-replicate, drop-replicate}
use mathlib.Core.Path.{◌∙◌}
use Rattle.checks.proofs.Laws.{tested-in, table-first}
use Rattle.checks.proofs.tests.Goals as goal

pub rules-requires : goal.rules-requires
rules-requires c =
    let k = rw c.unwrap.ensures at c.split_first_chunk_mut.ensures.cases in
    let j = rw c.unwrap-space.ensures at c.first_chunk_mut.ensures.cases in (
      omega arith,
      j.same ∙ ap (take 62464) (k.1 ∙ ap (drop 3072) c.requires.2 ∙ drop-replicate {X = ℕ} 3072 (length c.args.work.now) 0) ∙ take-replicate {X = ℕ} 62464 (length c.args.work.now - 3072) 0 (omega arith),
    )

pub returns : goal.returns
returns c =
    let room : 65536 ≤ length c.args.work.now = omega arith in
    (λ o. tested-in c.args.text.now _ room o (omega arith) ∙ c.rules.ensures.0 o, table-first c.args.text.now _ room c.rules.new.table _ c.rules.result c.rules.ensures.1)

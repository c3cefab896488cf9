-- `literals::span_of` meets its contract.
use Rattle.std.proofs.Common.{rules}
use Rattle.std.proofs.lemmas.Result.{err_from_is_err_and}
use Rattle.checks.proofs.Kept.{kept_then}
use Rattle.literals.proofs.Selectors.{low-task, again, span-low, span-ok, span-high}
use Rattle.literals.proofs.span_of.Goals as goal

pub index_of-requires : goal.index_of-requires
index_of-requires c = low-task c.requires c.number_at-q.ensures.0

pub returns-in_err-low : goal.returns-in_err-low
returns-in_err-low c =
    let p = err_from_is_err_and c.from_residual.result c.from_residual.ensures.1 in
    rw (p.1, p.2) (span-low c.requires c.number_at-q.ensures.0 c.index_of.result c.index_of.ensures.0 c.in_err-low.field-0.0 c.in_err-low.was, c.index_of.ensures.1)

pub high_of-requires : goal.high_of-requires
high_of-requires c = again c.requires c.number_at-q.ensures.0 c.index_of.result c.index_of.ensures.0 c.in_ok-low.was (search rules) c.index_of.ensures.1

pub returns-in_err-high : goal.returns-in_err-high
returns-in_err-high c =
    let p = err_from_is_err_and c.from_residual-in_err-high.result c.from_residual-in_err-high.ensures.1 in
    rw (p.1, p.2) (
      span-high c.requires c.number_at-q.ensures.0 c.index_of.result c.index_of.ensures.0 c.in_ok-low.was (search rules) c.index_of.ensures.1 c.high_of.result c.high_of.ensures.0 c.in_err-high.field-0.0 c.in_err-high.was,
      kept_then c.index_of.ensures.1 c.high_of.ensures.1,
    )

pub returns : goal.returns
returns c = (
  span-ok c.requires c.number_at-q.ensures.0 c.index_of.result c.index_of.ensures.0 c.in_ok-low.was (search rules) c.index_of.ensures.1 c.high_of.result c.high_of.ensures.0 c.in_ok-high.was (search rules),
  kept_then c.index_of.ensures.1 c.high_of.ensures.1,
)

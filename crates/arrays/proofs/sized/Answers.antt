-- `arrays::sized` meets its contract.
use Rattle.std.proofs.lemmas.Result.{err_from_is_err_and}
use Rattle.arrays.proofs.Wholes.{sized-outside, sized-none, sized-well}
use Rattle.arrays.proofs.sized.Goals as goal

pub returns-in_err-size : goal.returns-in_err-size
returns-in_err-size c =
    let p = err_from_is_err_and c.from_residual.result c.from_residual.ensures.1 in
    rw (p.1, p.2) (sized-none c.requires.0 c.requires.1 c.literal_size.ensures.1 c.literal_size.result c.literal_size.ensures.0 c.in_err-size.field-0.0 c.in_err-size.was)

pub returns-then-size-reach : goal.returns-then-size-reach
returns-then-size-reach c = sized-outside c.requires.0 c.requires.1 c.literal_size.ensures.1 c.literal_size.result c.literal_size.ensures.0 c.in_ok-size.was c.if-size-reach.true

pub returns : goal.returns
returns c = sized-well c.requires.0 c.requires.1 c.literal_size.ensures.1 c.literal_size.result c.literal_size.ensures.0 c.in_ok-size.was c.if-size-reach.false c.measured.result c.measured.ensures

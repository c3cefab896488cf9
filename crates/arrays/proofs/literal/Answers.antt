-- `arrays::literal` meets its contract.
use Rattle.std.proofs.Common.{refl, Ok, Err, None}
use Rattle.std.proofs.lemmas.Result.{err_from_is_err_and}
use Rattle.arrays.proofs.Wholes.{literal-ended, literal-well}
use Rattle.literals.proofs.Names.{logged-kept}
use Rattle.arrays.proofs.literal.Goals as goal

pub returns-in_err-x : goal.returns-in_err-x
returns-in_err-x c =
    let p = err_from_is_err_and c.from_residual.result c.from_residual.ensures.1 in
    rw (p.1, p.2) (literal-ended c.requires.0 c.requires.1 c.fill.result c.fill.ensures (Err c.in_err-x.field-0.0) c.in_err-x.was refl)

pub sized-requires : goal.sized-requires
sized-requires c = (c.requires.0, logged-kept c.fill.ensures.keeps c.requires.1)

pub returns-in-Some : goal.returns-in-Some
returns-in-Some c = literal-well c.requires.0 c.requires.1 c.fill.result c.fill.ensures (rw c.in-Some.is at c.in_ok-x.was) c.sized.ensures

pub returns-in-None : goal.returns-in-None
returns-in-None c = literal-ended c.requires.0 c.requires.1 c.fill.result c.fill.ensures (Ok None) (rw c.in-None.is at c.in_ok-x.was) refl

-- `vars::has_names` meets its contract.
use Rattle.vars.proofs.Names.{NoneLaid}
use Rattle.vars.proofs.has_names.Given as goal

abbrev pub invariant-loop-j : goal.invariant-loop-j
invariant-loop-j l = NoneLaid l.sheet l.r l.count l.j

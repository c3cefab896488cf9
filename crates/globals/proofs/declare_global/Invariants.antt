-- `globals::declare_global` meets its contract.
use Rattle.globals.proofs.Declare.{Naming}
use Rattle.globals.proofs.declare_global.Given as goal

abbrev pub invariant-loop-j : goal.invariant-loop-j
invariant-loop-j l = Naming l.sheet l.initial.work l.work l.r l.count l.initial.h l.h l.j

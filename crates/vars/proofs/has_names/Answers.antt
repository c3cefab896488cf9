use native.Mathlib.Omega.{arith}
use Rattle.vars.proofs.Names.{names-all, searched, search-found, search-on}
use Rattle.semantics.specs.Global.{laid_names}
use mathlib.Core.Path.{ap, sym}
use Rattle.vars.proofs.has_names.Goals as goal

pub loop-j-init : goal.loop-j-init
loop-j-init c = record { same = ap laid_names (sym (names-all c.args.sheet.now c.args.r c.name_count-count.ensures.0)) }

pub name_at-requires : goal.name_at-requires
name_at-requires c = (c.requires, omega (arith, c.name_count-count.ensures.1, c.loop-j-test.true))

pub returns-then-not-is_nil : goal.returns-then-not-is_nil
returns-then-not-is_nil c = search-found c.loop-j.invariant c.loop-j-test.true c.name_at.ensures c.is_nil.ensures c.if-not-is_nil.true

pub loop-j-preserved : goal.loop-j-preserved
loop-j-preserved c = search-on c.loop-j.invariant c.loop-j-test.true c.name_at.ensures c.is_nil.ensures c.if-not-is_nil.false

pub returns : goal.returns
returns c = searched c.loop-j.invariant c.loop-j-test.false

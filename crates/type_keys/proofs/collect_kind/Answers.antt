use mathlib.Core.Path.{sym}
use native.Mathlib.Omega.{arith}
use Rattle.std.proofs.Common.{rules}
use Rattle.codes.specs.Kinds.{element_kind}
use Rattle.checks.proofs.Kept.{outside-all}
use Rattle.type_keys.proofs.Table.{kind-outside}
use Rattle.type_keys.proofs.Elements.{kind-known, kind-new}
use Rattle.type_keys.proofs.collect_kind.Goals as goal

pub returns-in-Some : goal.returns-in-Some
returns-in-Some c = (λ ks x. kind-known c.args.work.now (element_kind c.args.kind) ks c.args.keys x (λ z. omega (arith, c.in-Some.ensures.value)), outside-all)

pub returns-in-None : goal.returns-in-None
returns-in-None c = (λ ks x. kind-new c.args.work.now (element_kind c.args.kind) ks c.args.keys x (search rules) (sym c.in-None.ensures.value) c.enter_kind.new.work c.enter_kind.ensures, rw c.enter_kind.ensures (kind-outside c.args.work.now (element_kind c.args.kind) c.args.keys))

-- `implement::is_implemented` meets its contract.
use native.Mathlib.Omega.{arith}
use mathlib.Core.Path.{◌∙◌, ap}
use borrow.Author.Tests.{ne_eqb}
use Rattle.lines.proofs.Line.{form-low}
use Rattle.semantics.specs.Text.{Bytes, same}
use Rattle.implement.proofs.Modules.{implemented-none, implemented-not, implemented-by}
use Rattle.implement.proofs.is_implemented.Goals as goal

pub returns-then-n-eq0 : goal.returns-then-n-eq0
returns-then-n-eq0 c =
    let a = c.args in
    implemented-none a.sheet.now c.requires a.name.now (omega (arith, c.count-n.ensures.0, c.if-n-eq0.true))

pub returns-else-kind-eq-IMPL : goal.returns-else-kind-eq-IMPL
returns-else-kind-eq-IMPL c =
    let a = c.args in
    ne_eqb c.kind.result 73 c.if-kind-eq-IMPL.false ∙ implemented-not a.sheet.now c.requires a.name.now (omega (arith, c.count-n.ensures.0, c.if-n-eq0.false)) c.form_at.ensures.0 c.kind.ensures c.if-kind-eq-IMPL.false

pub returns-then-kind-eq-IMPL : goal.returns-then-kind-eq-IMPL
returns-then-kind-eq-IMPL c =
    let a = c.args in
    c.same.ensures ∙ ap (λ (x : Bytes). same x a.name.now) c.field_at.ensures.0
    ∙ implemented-by a.sheet.now c.requires a.name.now (omega (arith, c.count-n.ensures.0, c.if-n-eq0.false)) c.form_at.ensures.0 c.kind.ensures c.if-kind-eq-IMPL.true

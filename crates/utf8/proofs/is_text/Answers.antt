use Rattle.std.proofs.Common.{◌∙◌, sym, ◌*◌, arith}
use Rattle.utf8.specs.Utf8.{lead_of}
use Rattle.utf8.proofs.Utf8s.{text_odd, text-start, text-bad, text-fault, text-next, text-end}
use Rattle.utf8.proofs.is_text.Goals as goal

pub returns-then-s-ne0 : goal.returns-then-s-ne0
returns-then-s-ne0 c = text_odd c.args.s.now c.if-s-ne0.true

pub loop-i-init : goal.loop-i-init
loop-i-init c = rw c.to_come-a.ensures (text-start c.args.s.now)

pub returns-in_default : goal.returns-in_default
returns-in_default c =
    let l = c.loop-i in
    sym (l.invariant ∙ text-bad c.args.s.now l.i (lead_of l.a) (omega arith) (sym c.in_default.ensures))

pub returns-in_default-next : goal.returns-in_default-next
returns-in_default-next c =
    let l = c.loop-i in
    sym (l.invariant ∙ text-fault c.args.s.now l.i (lead_of l.a) (omega arith) (sym c.in-Some.ensures) (sym c.in_default-next.ensures))

pub loop-i-preserved : goal.loop-i-preserved
loop-i-preserved c =
    let l = c.loop-i in
    l.invariant ∙ text-next c.args.s.now l.i (lead_of l.a) (omega arith) (sym c.in-Some.ensures) (sym c.in-Some-next.ensures)

pub returns : goal.returns
returns c =
    let l = c.loop-i in
    sym (l.invariant ∙ text-end c.args.s.now (2 * l.i) (lead_of l.a) (omega arith))

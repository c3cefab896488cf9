use Rattle.std.proofs.Common.{◌∙◌, sym, arith}
use Rattle.decimal.proofs.Numbers.{digit-turn}
use Rattle.decimal.proofs.digits.Goals as goal

pub loop-b-preserved : goal.loop-b-preserved
loop-b-preserved c =
    let l = c.loop-b in
    (omega arith, l.invariant.1 ∙ digit-turn l.n l.b-index c.args.s.now c.loop-b-test.true (sym c.if-not-is_ascii_digit.ensures.value) (rw (← c.from.ensures) c.more-n.ensures))

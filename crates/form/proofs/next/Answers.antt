-- `form::next` meets its contract.
use native.Mathlib.Omega.{arith}
use Rattle.form.proofs.Table.{codes-short}
use Rattle.form.proofs.Laws.{not-ended, walk-stepped}
use Rattle.form.proofs.next.Goals as goal

pub step-u-requires : goal.step-u-requires
step-u-requires c = omega (arith, codes-short c.args.f c.requires.0.ready.form, c.requires.0.ready.within)

pub returns : goal.returns
returns c =
    let q = c.step-u.ensures.0 c.args.f c.requires.0.ready c.letter-x.ensures (not-ended c.args.f c.args.l.now c.args.w c.requires.0 c.find-e.result c.requires.1 c.find-e.ensures.0 c.letter-x.result c.letter-x.ensures) in
    walk-stepped c.args.f c.args.l.now c.args.w c.requires.0 c.find-e.result c.requires.1 c.find-e.ensures.0 c.letter-x.result c.letter-x.ensures c.number-v.result c.step-u.result c.number-v.ensures.0 q.0 q.1 c.step-u.ensures.1

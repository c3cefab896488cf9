use Rattle.std.proofs.Common.{◌∙◌, arith}
use Rattle.hex_field.proofs.Hexes.{bytes-grow, bytes_fit}
use Rattle.words.specs.Words.{bits_at}
use Rattle.words.proofs.Laws.{bits-start, bits-next, bits-end}
use Rattle.words.proofs.bits_at.Goals as goal

pub loop-k-init : goal.loop-k-init
unfolding bits_at
loop-k-init c = (omega arith, bits-start c.args.work.now c.args.a)

pub overflow_mul-bits : goal.overflow_mul-bits
overflow_mul-bits c = record { fits = let h = bytes_fit c.loop-k.bits c.loop-k.k 0 c.loop-k.invariant.0 c.loop-k-test.true (omega arith) in omega arith }

pub overflow_add-bits : goal.overflow_add-bits
overflow_add-bits c = record { fits = bytes_fit c.loop-k.bits c.loop-k.k c.from.result c.loop-k.invariant.0 c.loop-k-test.true (omega arith) }

pub loop-k-preserved : goal.loop-k-preserved
loop-k-preserved c =
    let l = c.loop-k in
    (bytes-grow l.bits l.k c.from.result l.invariant.0 (omega arith), l.invariant.1 ∙ bits-next c.args.work.now c.args.a l.k l.bits c.loop-k-test.true c.requires ∙ rw c.from.ensures)

pub returns : goal.returns
returns c = bits-end c.args.work.now c.args.a c.loop-k.k c.loop-k.bits (omega arith) c.loop-k.invariant.1

use mathlib.Core.Path.{◌≡◌, refl}
use native.Mathlib.Omega.{arith}
use Rattle.semantics.specs.Layout.{map_bits}
use Rattle.layout.proofs.Marks.{next_bit, room}
use Rattle.layout.proofs.map.map_byte.Goals as goal

pub loop-k-init : goal.loop-k-init
unfolding map_bits
loop-k-init c = refl

pub overflow_mul-byte : goal.overflow_mul-byte
overflow_mul-byte c =
    let r = room _ _ c.loop-k.k _ _ c.word_marked.result c.loop-k-test.true c.loop-k.invariant in
    record { fits = omega (arith, r.0) }

pub overflow_add-byte : goal.overflow_add-byte
overflow_add-byte c =
    let r = room _ _ c.loop-k.k _ _ c.word_marked.result c.loop-k-test.true c.loop-k.invariant in
    record { fits = omega (arith, r.0, r.1) }

pub loop-k-preserved : goal.loop-k-preserved
loop-k-preserved c = rw c.from-bit.ensures (next_bit _ _ c.loop-k.k _ _ _ c.loop-k.invariant (rw c.from.ensures at c.word_marked.ensures))

pub returns : goal.returns
returns c = let e : c.loop-k.k ≡ 8 = omega arith in rw e at c.loop-k.invariant

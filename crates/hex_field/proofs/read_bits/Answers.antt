use Rattle.std.proofs.Common.{◌<◌, ◌*◌, ◌∙◌, sym, arith}
use Rattle.hex_field.proofs.Hexes.{bits-short, bits-start, bits-bad, bits-next, bits-end, bytes-grow, bytes_fit}
use Rattle.hex_field.proofs.read_bits.Goals as goal

pub returns-then-s-ne16 : goal.returns-then-s-ne16
returns-then-s-ne16 c = bits-short c.args.s.now c.if-s-ne16.true

pub loop-i-init : goal.loop-i-init
loop-i-init c = (omega arith, bits-start c.args.s.now c.if-s-ne16.false)

pub returns-in_err-byte : goal.returns-in_err-byte
returns-in_err-byte c =
    let l = c.loop-i in
    c.from_residual.ensures ∙ sym (l.invariant.1 ∙ bits-bad c.args.s.now l.i l.bits (omega arith) (sym c.in_err-byte.ensures))

pub overflow_mul-bits : goal.overflow_mul-bits
overflow_mul-bits c =
    let l = c.loop-i in
    record { fits = let h = bytes_fit l.bits l.i 0 l.invariant.0 c.loop-i-test.true (omega arith) in omega arith }

pub overflow_add-bits : goal.overflow_add-bits
overflow_add-bits c =
    let l = c.loop-i in
    let b : c.from.result < 256 = omega arith in
    record { fits = bytes_fit l.bits l.i c.from.result l.invariant.0 c.loop-i-test.true b }

pub loop-i-preserved : goal.loop-i-preserved
loop-i-preserved c =
    let l = c.loop-i in
    let b : c.from.result < 256 = omega arith in
    (bytes-grow l.bits l.i c.from.result l.invariant.0 b, l.invariant.1 ∙ bits-next c.args.s.now l.i l.bits (omega arith) (rw c.from.ensures (sym c.in_ok-byte.ensures)))

pub returns : goal.returns
returns c = bits-end c.args.s.now (2 * c.loop-i.i) c.loop-i.bits (omega arith) ∙ sym c.loop-i.invariant.1

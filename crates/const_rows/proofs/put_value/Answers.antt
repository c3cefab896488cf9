-- `const_rows::put_value` meets its contract.
use Rattle.std.proofs.Common.{sym, rules}
use Rattle.codes.specs.declared.value.Value.TheVariants as V
use Rattle.codes.proofs.Values.{value-number, no-value}
use Rattle.write.proofs.Writes.{writes_as}
use Rattle.const_rows.proofs.Laws as Laws
use Rattle.const_rows.proofs.put_value.Goals as goal

pub returns-in_default : goal.returns-in_default
returns-in_default c = writes_as (sym (Laws.shows-none c.args.work.now c.in_default.is)) c.put_part.ensures

pub returns-in-Some-Int : goal.returns-in-Some-Int
returns-in-Some-Int c =
    let n = value-number c.slot_kind.result V.Int (rw c.in-Some-Int.field-0-is at c.in-Some-Int.ensures) in
    Laws.shows-int c.args.work.now c.args.r c.requires c.in-Some.is c.slot_kind.result c.slot_bits-b.result c.slot_kind.ensures c.slot_bits-b.ensures n (search rules) c.of_bits.ensures c.put_part-in-Some-Int.ensures c.put_int.ensures c.put.ensures

pub returns-in-Some-Real : goal.returns-in-Some-Real
returns-in-Some-Real c =
    let n = value-number c.slot_kind.result V.Real (rw c.in-Some-Real.field-0-is at c.in-Some-Real.ensures) in
    Laws.shows-real c.args.work.now c.args.r c.requires c.in-Some.is c.slot_kind.result c.slot_bits-b.result c.slot_kind.ensures c.slot_bits-b.ensures n c.of_bits-in-Some-Real.ensures c.bits.ensures c.put_part-in-Some-Real.ensures c.put_hex_bits.ensures c.put-in-Some-Real.ensures

pub returns-in-Some-Str : goal.returns-in-Some-Str
returns-in-Some-Str c =
    let n = value-number c.slot_kind.result V.Str (rw c.in-Some-Str.field-0-is at c.in-Some-Str.ensures) in
    Laws.shows-text c.args.work.now c.args.r c.requires c.in-Some.is c.slot_kind.result c.slot_bits-b.result c.slot_kind.ensures c.slot_bits-b.ensures n c.put_part-in-Some-Str.ensures c.put_hex.ensures c.put-in-Some-Str.ensures

pub returns-in-None : goal.returns-in-None
returns-in-None c =
    let n = no-value c.slot_kind.result c.in-None.ensures in
    writes_as (sym (Laws.shows-failed c.args.work.now c.args.r c.requires c.in-Some.is c.slot_kind.result c.slot_bits-b.result c.slot_kind.ensures c.slot_bits-b.ensures n.0 n.1 n.2)) c.put_part-in-None.ensures
